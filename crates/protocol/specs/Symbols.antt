-- The primitives over terms, and worlds of sides over them. Perfect primitives are all that is assumed by this.
use Rattle.std.specs.Prelude.{ℕ, suc, Bool, false, cond, ◌&&◌, List, [], ◌∷◌, replicate, Some, None, Option, ◌==◌}
use Rattle.words.specs.Numbers.{malformed}
use Rattle.words.specs.Registry.{kind_hello, kind_end, mark_reply, mark_end}
use Rattle.words.specs.Choice.{proper}
use Rattle.symbolic.specs.Key.{Key, own, made}
use Rattle.symbolic.specs.Term.{Term, Raw, Number, Listed, Fresh, Secret, Public, One, Element, Sign, Digest, Mac, Close, Both, Tag, same, rise, Seen, a_number, a_list, a_secret, a_public, a_closed, a_pair, a_tagged, something, seen}
use Rattle.protocol.specs.Got.{Got, No, Yes, bind, guard}
use Rattle.protocol.specs.Words.{Hello, Body, Reply, Word, a_hello, a_reply, an_end}
use Rattle.protocol.specs.Algebra.{Algebra}
use Rattle.protocol.specs.Side.{Side}
use Rattle.protocol.specs.Step.{Draws}
use Rattle.protocol.specs.World.{World}

-- words as terms
abbrev pub hello_term : Hello Term → Term
hello_term h = Tag kind_hello (Both (Number 2 h.caller) (Both (Number 2 h.called) (Both (Listed h.offer) (Both h.nonce h.half))))

abbrev pub body_term : Body Term → Term
body_term b = Tag mark_reply (Both (hello_term b.hello) (Both (Number 1 b.choice) (Both b.nonce (Both b.seal b.box))))

abbrev pub reply_term : Reply Term → Term
reply_term r = Both (body_term r.body) r.signature

abbrev pub claim_term : Term → Term
claim_term w = Tag mark_end w

abbrev pub word_term : Word Term → Term
word_term (a_hello h) = hello_term h
word_term (a_reply r) = reply_term r
word_term (an_end x) = Tag kind_end x

-- what was seen, taken apart, or refused
unfoldable pub as_tagged : {Y : Type 0} → ℕ → Seen → (Term → Got Y) → Got Y
as_tagged n (a_tagged m c) f = guard malformed (m == n) (f c)
as_tagged n (a_number w k) f = No malformed
as_tagged n (a_list ns) f = No malformed
as_tagged n (a_secret k) f = No malformed
as_tagged n (a_public k) f = No malformed
as_tagged n (a_closed k m h c) f = No malformed
as_tagged n (a_pair a b) f = No malformed
as_tagged n something f = No malformed

unfoldable pub as_pair : {Y : Type 0} → Seen → (Term → Term → Got Y) → Got Y
as_pair (a_pair a b) f = f a b
as_pair (a_tagged m c) f = No malformed
as_pair (a_number w k) f = No malformed
as_pair (a_list ns) f = No malformed
as_pair (a_secret k) f = No malformed
as_pair (a_public k) f = No malformed
as_pair (a_closed k m h c) f = No malformed
as_pair something f = No malformed

unfoldable pub as_number : {Y : Type 0} → ℕ → Seen → (ℕ → Got Y) → Got Y
as_number n (a_number w k) f = guard malformed (w == n) (f k)
as_number n (a_pair a b) f = No malformed
as_number n (a_tagged m c) f = No malformed
as_number n (a_list ns) f = No malformed
as_number n (a_secret k) f = No malformed
as_number n (a_public k) f = No malformed
as_number n (a_closed k m h c) f = No malformed
as_number n something f = No malformed

unfoldable pub as_list : {Y : Type 0} → Seen → (List ℕ → Got Y) → Got Y
as_list (a_list ns) f = f ns
as_list (a_number w k) f = No malformed
as_list (a_pair a b) f = No malformed
as_list (a_tagged m c) f = No malformed
as_list (a_secret k) f = No malformed
as_list (a_public k) f = No malformed
as_list (a_closed k m h c) f = No malformed
as_list something f = No malformed

-- reading a hello, a reply's signed part, and any word
unfoldable pub read_hello : Term → Got (Hello Term)
read_hello t =
    as_tagged kind_hello (seen t) (λ c.
    as_pair (seen c) (λ a c.
    as_number 2 (seen a) (λ caller.
    as_pair (seen c) (λ b c.
    as_number 2 (seen b) (λ called.
    as_pair (seen c) (λ o c.
    as_list (seen o) (λ offer.
    guard malformed (proper offer)
    (as_pair (seen c) (λ nonce half.
    Yes (record { caller = caller; called = called; offer = offer; nonce = nonce; half = half }))))))))))

unfoldable pub read_body : Term → Got (Body Term)
read_body t =
    as_tagged mark_reply (seen t) (λ c.
    as_pair (seen c) (λ h c.
    bind (read_hello h) (λ hello.
    as_pair (seen c) (λ x c.
    as_number 1 (seen x) (λ choice.
    as_pair (seen c) (λ nonce c.
    as_pair (seen c) (λ seal box.
    Yes (record { hello = hello; choice = choice; nonce = nonce; seal = seal; box = box }))))))))

unfoldable pub read_seen : Term → Seen → Got (Word Term)
read_seen t (a_pair a b) = bind (read_body a) (λ body. Yes (a_reply (record { body = body; signature = b })))
read_seen t (a_tagged n c) = cond (n == kind_end) (Yes (an_end c)) (bind (read_hello t) (λ h. Yes (a_hello h)))
read_seen t (a_number w k) = No malformed
read_seen t (a_list ns) = No malformed
read_seen t (a_secret k) = No malformed
read_seen t (a_public k) = No malformed
read_seen t (a_closed k m h c) = No malformed
read_seen t something = No malformed

abbrev pub read_term : Term → Got (Word Term)
read_term t = read_seen t (seen t)

-- the key that a secret half stands for; anything else is no key
unfoldable pub key_seen : Seen → Option Key
key_seen (a_secret k) = Some k
key_seen (a_public k) = None
key_seen (a_number w k) = None
key_seen (a_list ns) = None
key_seen (a_pair a b) = None
key_seen (a_tagged n c) = None
key_seen (a_closed k m h c) = None
key_seen something = None

unfoldable pub public_seen : Seen → Option Key
public_seen (a_public k) = Some k
public_seen (a_secret k) = None
public_seen (a_number w k) = None
public_seen (a_list ns) = None
public_seen (a_pair a b) = None
public_seen (a_tagged n c) = None
public_seen (a_closed k m h c) = None
public_seen something = None

-- what a key gives; what is no key gives nothing of use
unfoldable pub by_key : Option Key → (Key → Term) → Term
by_key None f = Raw 0
by_key (Some k) f = f k

unfoldable pub verified : Option Key → Term → Term → Bool
verified None m s = false
verified (Some k) m s = same s (Sign k m)

-- opening: the key, the number and the head must be those that it was closed with
unfoldable pub unclose_seen : Term → ℕ → Term → Seen → Option Term
unclose_seen k n h (a_closed l m g c) = cond (same k l && n == m && same h g) (Some c) None
unclose_seen k n h (a_secret l) = None
unclose_seen k n h (a_public l) = None
unclose_seen k n h (a_number w l) = None
unclose_seen k n h (a_list ns) = None
unclose_seen k n h (a_pair a b) = None
unclose_seen k n h (a_tagged m c) = None
unclose_seen k n h something = None

-- the two parts of a content
unfoldable pub front_seen : Term → Seen → Term
front_seen t (a_pair a b) = a
front_seen t (a_secret k) = t
front_seen t (a_public k) = t
front_seen t (a_number w k) = t
front_seen t (a_list ns) = t
front_seen t (a_tagged n c) = t
front_seen t (a_closed k m h c) = t
front_seen t something = t

unfoldable pub rear_seen : Seen → Term
rear_seen (a_pair a b) = b
rear_seen (a_secret k) = Raw 0
rear_seen (a_public k) = Raw 0
rear_seen (a_number w k) = Raw 0
rear_seen (a_list ns) = Raw 0
rear_seen (a_tagged n c) = Raw 0
rear_seen (a_closed k m h c) = Raw 0
rear_seen something = Raw 0

-- nothing at all
abbrev pub nothing : Term
nothing = Number 0 0

-- what a reply's signature is over, what an end's is over, and which common element is refused
pub record Variant : Type 0 where
  pub body : Body Term → Term
  pub claim : Term → Term
  pub one : Term

-- as the rules have it
abbrev pub standard : Variant
standard = record { body = body_term; claim = claim_term; one = One }

-- the primitives, in any variant
abbrev pub primitives : Variant → Algebra
primitives v = record {
  Atom = Term;
  same = same;
  write = word_term;
  read = read_term;
  body = v.body;
  claim = v.claim;
  both = Both;
  front = λ t. front_seen t (seen t);
  rear = λ t. rear_seen (seen t);
  none = nothing;
  byte = λ n. Number 1 n;
  one = v.one;
  half = λ x. by_key (key_seen (seen x)) (λ k. rise k (Element []));
  common = λ x e. by_key (key_seen (seen x)) (λ k. rise k e);
  public = λ x. by_key (key_seen (seen x)) Public;
  sign = λ x m. by_key (key_seen (seen x)) (λ k. Sign k m);
  verifies = λ p m s. verified (public_seen (seen p)) m s;
  digest = Digest;
  mac = Mac;
  close = Close;
  unclose = λ k n h t. unclose_seen k n h (seen t);
}

-- the primitives as the rules have them
abbrev pub symbols : Algebra
symbols = primitives standard

-- what is drawn at a time
abbrev pub fresh : ℕ → Draws Term
fresh t = record { value = λ i. Fresh t i; key = λ i. Secret (made t i) }

-- the sides at the start, each with its preferences, an identity key of its own and the halves of all
abbrev pub new_side : List Term → ℕ → List ℕ → Side Term
new_side keys n preferences = record { me = n; own = Secret (own n 0); keys = keys; preferences = preferences; calls = []; answers = []; ended = []; counts = replicate 14 0 }

unfoldable pub new_keys : ℕ → List (List ℕ) → List Term
new_keys n [] = []
new_keys n (p ∷ ps) = Public (own n 0) ∷ new_keys (suc n) ps

unfoldable pub new_sides : List Term → ℕ → List (List ℕ) → List (Side Term)
new_sides keys n [] = []
new_sides keys n (p ∷ ps) = new_side keys n p ∷ new_sides keys (suc n) ps

-- the world at the start: a side for each list of preferences
abbrev pub start : List (List ℕ) → World Term
start ps = record { sides = new_sides (new_keys 0 ps) 0 ps; log = [] }
