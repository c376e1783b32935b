-- Different words are different terms, and so are different signed parts. Assumes nothing.
use Rattle.std.proofs.Common.{◌≡◌, ℕ, ap, arith}
use Rattle.symbolic.specs.Term.{Term, Both, Tag}
use Rattle.protocol.specs.Words.{Hello, Body, Reply, Word, a_hello, a_reply, an_end}
use Rattle.protocol.specs.Symbols.{hello_term, body_term, reply_term, claim_term, word_term}

pub hello_same : (h g : Hello Term) → hello_term h ≡ hello_term g → h ≡ g
hello_same h g e =
    let a : h.caller ≡ g.caller = cc in
    let b : h.called ≡ g.called = cc in
    let c : h.offer ≡ g.offer = cc in
    let d : h.nonce ≡ g.nonce = cc in
    let f : h.half ≡ g.half = cc in
    λ i. record { caller = a i; called = b i; offer = c i; nonce = d i; half = f i }

pub body_same : (x y : Body Term) → body_term x ≡ body_term y → x ≡ y
body_same x y e =
    let t : hello_term x.hello ≡ hello_term y.hello = cc in
    let a = hello_same x.hello y.hello t in
    let b : x.choice ≡ y.choice = cc in
    let c : x.nonce ≡ y.nonce = cc in
    let d : x.seal ≡ y.seal = cc in
    let f : x.box ≡ y.box = cc in
    λ i. record { hello = a i; choice = b i; nonce = c i; seal = d i; box = f i }

pub reply_same : (r s : Reply Term) → reply_term r ≡ reply_term s → r ≡ s
reply_same r s e =
    let t : body_term r.body ≡ body_term s.body = cc in
    let a = body_same r.body s.body t in
    let b : r.signature ≡ s.signature = cc in
    λ i. record { body = a i; signature = b i }

pub claim_same : (r s : Reply Term) → claim_term (reply_term r) ≡ claim_term (reply_term s) → r ≡ s
claim_same r s e = let t : reply_term r ≡ reply_term s = cc in reply_same r s t

-- a reply is never taken for an end: the marks differ
pub marks_apart : (x : Body Term) (w : Term) → body_term x ≡ claim_term w → ⊥
marks_apart x w e = let h : ◌≡◌ {A = ℕ} 2 3 = cc in omega arith

tag_content : (n : ℕ) (v w : Term) → Tag n v ≡ Tag n w → v ≡ w
tag_content n v w e = cc

tag_number : (m n : ℕ) (v w : Term) → Tag m v ≡ Tag n w → m ≡ n
tag_number m n v w e = cc

tag_pair : (n : ℕ) (v a b : Term) → Tag n v ≡ Both a b → ⊥
tag_pair n v a b e = let z : ◌≡◌ {A = ℕ} 0 1 = cc in omega arith

pair_tag : (n : ℕ) (v a b : Term) → Both a b ≡ Tag n v → ⊥
pair_tag n v a b e = let z : ◌≡◌ {A = ℕ} 0 1 = cc in omega arith

pub claims_same : (v w : Term) → claim_term v ≡ claim_term w → v ≡ w
claims_same v w e = tag_content 3 v w e

pub words_apart : (v w : Word Term) → word_term v ≡ word_term w → v ≡ w
words_apart (a_hello h) (a_hello g) e = ap a_hello (hello_same h g e)
words_apart (a_hello h) (a_reply r) e = absurd (tag_pair _ _ _ _ e)
words_apart (a_hello h) (an_end x) e = let n = tag_number _ _ _ _ e in absurd (omega arith)
words_apart (a_reply r) (a_hello h) e = absurd (pair_tag _ _ _ _ e)
words_apart (a_reply r) (a_reply s) e = ap a_reply (reply_same r s e)
words_apart (a_reply r) (an_end x) e = absurd (pair_tag _ _ _ _ e)
words_apart (an_end x) (a_hello h) e = let n = tag_number _ _ _ _ e in absurd (omega arith)
words_apart (an_end x) (a_reply r) e = absurd (tag_pair _ _ _ _ e)
words_apart (an_end x) (an_end y) e = ap an_end (tag_content 3 x y e)
