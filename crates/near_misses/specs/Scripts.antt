-- What the network does against each weakened side. Assumes nothing.
use Rattle.std.specs.Prelude.{ℕ, List, [], ◌∷◌, ◌++◌}
use Rattle.symbolic.specs.Key.{own, made}
use Rattle.symbolic.specs.Term.{Term, Raw, Fresh, Secret, One, Element, Sign, Both}
use Rattle.protocol.specs.Words.{Hello, Body, Reply, an_end}
use Rattle.protocol.specs.Algebra.{sealed, locked}
use Rattle.protocol.specs.Step.{new_body, new_reply}
use Rattle.protocol.specs.World.{Command, Call, Deliver, Take, Draw}
use Rattle.protocol.specs.Symbols.{symbols, primitives, claim_term, fresh, word_term}
use Rattle.cases.specs.Table.{reply, end, say_hello, say_reply, opposite, first_hello, struck_hello, undisturbed_script}
use Rattle.near_misses.specs.Weak.{part_of_called, part_of_caller, before_the_seal, unmarked}

-- the reply of b to a hello with a choice when t things have happened, where its signature is over another part
abbrev pub reply_signing : (Body Term → Term) → ℕ → Hello Term → ℕ → ℕ → Reply Term
reply_signing part b h choice t = new_reply (primitives (record { body = part; claim = claim_term; one = One })) (Secret (own b 0)) (new_body symbols h choice (fresh t))

-- the same reply to another hello
abbrev pub with_hello : Hello Term → Reply Term → Reply Term
with_hello h r = record { body = record { hello = h; choice = r.body.choice; nonce = r.body.nonce; seal = r.body.seal; box = r.body.box }; signature = r.signature }

-- the same reply with another seal, by the key that the network drew when t things had happened, for the value drawn then
abbrev pub with_own_seal : ℕ → Reply Term → Reply Term
with_own_seal t r = record { body = record { hello = r.body.hello; choice = r.body.choice; nonce = r.body.nonce; seal = Element (made t 0 ∷ []); box = sealed symbols (Secret (made t 0)) r.body.hello.half (Fresh t 0) }; signature = r.signature }

-- 1. The network strikes 2 from the list, and puts the old hello into the reply. Both end with 1.
abbrev pub struck_reply : Reply Term
struck_reply = with_hello first_hello (reply_signing part_of_called 1 struck_hello 1 1)

abbrev pub own_parts_script : List (Command Term)
own_parts_script =
    let p = part_of_caller first_hello in
    Call 0 1 ∷ say_hello 1 struck_hello ∷ say_reply 0 struck_reply ∷ Deliver 1 (word_term (an_end (locked symbols (Fresh 1 1) (Both p (Sign (own 0 0) p))))) ∷ []

-- 2. The network puts a third side's name into the hello, and the old hello into the reply.
abbrev pub renamed_hello : Hello Term
renamed_hello = record { caller = 2; called = 1; offer = 1 ∷ 2 ∷ []; nonce = Fresh 0 0; half = Element (made 0 1 ∷ []) }

abbrev pub renamed_reply : Reply Term
renamed_reply = with_hello first_hello (reply_signing part_of_called 1 renamed_hello 2 1)

abbrev pub unsigned_hello_script : List (Command Term)
unsigned_hello_script = Call 0 1 ∷ say_hello 1 renamed_hello ∷ say_reply 0 renamed_reply ∷ []

abbrev pub three_sides : List (List ℕ)
three_sides = opposite ++ (1 ∷ []) ∷ []

-- 3. The network strikes 2 from the list, and the caller takes the answer to that.
abbrev pub uncompared_reply : Reply Term
uncompared_reply = reply 1 struck_hello 1 1

abbrev pub uncompared_script : List (Command Term)
uncompared_script = Call 0 1 ∷ say_hello 1 struck_hello ∷ say_reply 0 uncompared_reply ∷ []

-- 4. After an undisturbed session the caller's private keys are taken.
abbrev pub keeps_key_script : List (Command Term)
keeps_key_script = undisturbed_script ++ Take 0 ∷ []

-- 5. The network says hello in the name of 0, who never called, with a key of its own.
abbrev pub false_hello : ℕ → Hello Term
false_hello a = record { caller = a; called = 1; offer = 1 ∷ []; nonce = Raw 5; half = Element (made 0 0 ∷ []) }

abbrev pub believes_hellos_script : List (Command Term)
believes_hellos_script = Draw ∷ say_hello 1 (false_hello 0) ∷ []

-- 6. The network puts a seal of its own into the reply.
abbrev pub resealed_reply : Reply Term
resealed_reply = with_own_seal 2 (reply_signing before_the_seal 1 first_hello 2 1)

abbrev pub unsigned_seal_script : List (Command Term)
unsigned_seal_script = Call 0 1 ∷ say_hello 1 first_hello ∷ Draw ∷ say_reply 0 resealed_reply ∷ []

-- 7. Of two calls with one key the first ends, and then the private keys are taken while the second is open.
abbrev pub one_key_reply : Reply Term
one_key_reply = reply 1 first_hello 2 2

abbrev pub one_key_script : List (Command Term)
one_key_script = Call 0 1 ∷ Call 0 1 ∷ say_hello 1 first_hello ∷ say_reply 0 one_key_reply ∷ Take 0 ∷ []

-- 8. The network does nothing but deliver.
abbrev pub offer_first_reply : Reply Term
offer_first_reply = reply 1 first_hello 1 1

abbrev pub offer_first_script : List (Command Term)
offer_first_script = Call 0 1 ∷ say_hello 1 first_hello ∷ say_reply 0 offer_first_reply ∷ Deliver 1 (end 0 offer_first_reply 1) ∷ []

-- 9. The network sends a hello that can't be answered, to a side of which it doesn't know the preferences.
abbrev pub prying_hello : Hello Term
prying_hello = record { caller = 0; called = 1; offer = 1 ∷ []; nonce = Raw 5; half = One }

abbrev pub prefers_one : List (List ℕ)
prefers_one = (1 ∷ []) ∷ (1 ∷ []) ∷ []

abbrev pub prefers_two : List (List ℕ)
prefers_two = (1 ∷ []) ∷ (2 ∷ []) ∷ []

-- 11. The network says hello to 1 in its own name, opens the seal, and sends the side's own signature back as the caller's.
abbrev pub reflected_reply : Reply Term
reflected_reply = reply_signing unmarked 1 (false_hello 1) 1 1

abbrev pub bare_ends_script : List (Command Term)
bare_ends_script =
    let p = unmarked reflected_reply.body in
    Draw ∷ say_hello 1 (false_hello 1) ∷ Deliver 1 (word_term (an_end (locked symbols (Fresh 1 1) (Both p (Sign (own 1 0) p))))) ∷ []
