-- The table of cases: scripts of what the network does, and what is then seen. Assumes nothing.
use Rattle.std.specs.Prelude.{◌≡◌, ℕ, true, false, List, [], ◌∷◌, ◌++◌, replicate, slice_set}
use mathlib.Core.List.{Memᴰ}
use Rattle.symbolic.specs.Key.{own, made}
use Rattle.symbolic.specs.Term.{Term, Raw, Fresh, Secret, Element}
use Rattle.symbolic.specs.Derivable.{Gets}
use Rattle.protocol.specs.Words.{Hello, Body, Reply, a_hello, a_reply, an_end}
use Rattle.protocol.specs.Algebra.{sealed, locked}
use Rattle.protocol.specs.Step.{new_body, new_reply, end_content}
use Rattle.protocol.specs.Event.{heard}
use Rattle.protocol.specs.World.{rules, World, Command, Call, Deliver, Steal, Draw, plays}
use Rattle.protocol.specs.Symbols.{symbols, fresh, start, word_term}
use Rattle.promise.specs.Run.{all_proper}
use Rattle.promise.specs.Promise.{AllAllowed}
use Rattle.cases.specs.Sight.{Sight, Calls, Answers, Ends, Ended, Robbed, Draws, sights, refusals}

-- the hello that a sends to b, offering these ciphers, when t things have happened
abbrev pub hello : ℕ → ℕ → List ℕ → ℕ → Hello Term
hello a b offer t = record { caller = a; called = b; offer = offer; nonce = Fresh t 0; half = Element (made t 1 ∷ []) }

-- the reply of b to a hello, with a choice, when t things have happened
abbrev pub reply : ℕ → Hello Term → ℕ → ℕ → Reply Term
reply b h choice t = new_reply symbols (Secret (own b 0)) (new_body symbols h choice (fresh t))

-- the end that a sends to a reply which was made when t things had happened
abbrev pub end : ℕ → Reply Term → ℕ → Term
end a r t = word_term (an_end (locked symbols (Fresh t 1) (end_content symbols (Secret (own a 0)) r)))

-- a word on its way to a side
abbrev pub say_hello : ℕ → Hello Term → Command Term
say_hello to h = Deliver to (word_term (a_hello h))

abbrev pub say_reply : ℕ → Reply Term → Command Term
say_reply to r = Deliver to (word_term (a_reply r))

-- no refusals, and one by a number
abbrev pub clean : List ℕ
clean = replicate 14 0

abbrev pub refused : ℕ → List ℕ
refused n = slice_set clean n 1

-- a row: the preferences of the sides, what the network does, what is then seen (newest first) and refused by each side,
-- which secrets the network can derive then, and which it can't
pub record Row : Type 0 where
  pub preferences : List (List ℕ)
  pub script : List (Command Term)
  pub seen : List Sight
  pub refused_by : List (List ℕ)
  pub known : List Term
  pub kept : List Term

abbrev pub played : Row → World Term
played r = plays symbols (rules symbols) fresh (start r.preferences) r.script

-- opposite preferences: 1, 2 and 2, 1
abbrev pub opposite : List (List ℕ)
opposite = (1 ∷ 2 ∷ []) ∷ (2 ∷ 1 ∷ []) ∷ []

-- the words of an undisturbed session of the first two sides: 0 calls 1, which chooses 2
abbrev pub first_hello : Hello Term
first_hello = hello 0 1 (1 ∷ 2 ∷ []) 0

abbrev pub first_reply : Reply Term
first_reply = reply 1 first_hello 2 1

abbrev pub first_end : Term
first_end = end 0 first_reply 1

abbrev pub undisturbed_script : List (Command Term)
undisturbed_script = Call 0 1 ∷ say_hello 1 first_hello ∷ say_reply 0 first_reply ∷ Deliver 1 first_end ∷ []

-- A. Opposite preferences: the called side chooses. Called one way the choice is 2 ..
abbrev pub one_way : Row
one_way = record {
  preferences = opposite;
  script = undisturbed_script;
  seen = Ended 1 0 2 true ∷ Ends 0 1 2 true ∷ Answers 1 0 2 ∷ Calls 0 1 ∷ [];
  refused_by = clean ∷ clean ∷ [];
  known = [];
  kept = Fresh 1 1 ∷ [];
}

-- .. and called the other way it is 1.
abbrev pub other_way : Row
other_way =
    let h = hello 1 0 (2 ∷ 1 ∷ []) 0 in
    let r = reply 0 h 1 1 in
    record {
      preferences = opposite;
      script = Call 1 0 ∷ say_hello 0 h ∷ say_reply 1 r ∷ Deliver 0 (end 1 r 1) ∷ [];
      seen = Ended 0 1 1 true ∷ Ends 1 0 1 true ∷ Answers 0 1 1 ∷ Calls 1 0 ∷ [];
      refused_by = clean ∷ clean ∷ [];
      known = [];
      kept = Fresh 1 1 ∷ [];
    }

-- the first hello with the cipher 2 struck from its list
abbrev pub struck_hello : Hello Term
struck_hello = record { caller = 0; called = 1; offer = 1 ∷ []; nonce = Fresh 0 0; half = Element (made 0 1 ∷ []) }

-- B. The network strikes 2 from the hello: the called side answers the changed hello with 1, and the caller refuses that with 4.
abbrev pub struck : Row
struck = record {
  preferences = opposite;
  script = Call 0 1 ∷ say_hello 1 struck_hello ∷ say_reply 0 (reply 1 struck_hello 1 1) ∷ [];
  seen = Answers 1 0 1 ∷ Calls 0 1 ∷ [];
  refused_by = refused 4 ∷ clean ∷ [];
  known = [];
  kept = [];
}

-- C. A hello comes twice: two sessions at the called side. The caller ends one of them, and its end opens only that one: a second time it is refused with 9.
abbrev pub twice : Row
twice =
    let r = reply 1 first_hello 2 2 in
    record {
      preferences = opposite;
      script = Call 0 1 ∷ say_hello 1 first_hello ∷ say_hello 1 first_hello ∷ say_reply 0 r ∷ say_reply 0 first_reply ∷ Deliver 1 (end 0 r 2) ∷ Deliver 1 (end 0 r 2) ∷ [];
      seen = Ended 1 0 2 true ∷ Ends 0 1 2 true ∷ Answers 1 0 2 ∷ Answers 1 0 2 ∷ Calls 0 1 ∷ [];
      refused_by = refused 4 ∷ refused 9 ∷ [];
      known = [];
      kept = Fresh 2 1 ∷ [];
    }

-- what the network answers in the called side's name, with a secret and a key of its own that it drew when 2 things had happened
abbrev pub forged_body : Body Term
forged_body =
    let h = hello 0 1 (1 ∷ 2 ∷ []) 1 in
    record { hello = h; choice = 1; nonce = Raw 7; seal = Element (made 2 0 ∷ []); box = sealed symbols (Secret (made 2 0)) h.half (Fresh 2 0) }

abbrev pub forged_reply : Reply Term
forged_reply = new_reply symbols (Secret (own 1 0)) forged_body

-- D. The called side's key is stolen before the caller takes a reply: the network answers with a secret of its own, and the caller ends, not surely.
abbrev pub stolen_before : Row
stolen_before = record {
  preferences = opposite;
  script = Steal 1 ∷ Call 0 1 ∷ Draw ∷ say_reply 0 forged_reply ∷ [];
  seen = Ends 0 1 1 false ∷ Draws ∷ Calls 0 1 ∷ Robbed 1 ∷ [];
  refused_by = clean ∷ clean ∷ [];
  known = Fresh 2 0 ∷ [];
  kept = [];
}

-- E. Both keys are stolen after the session: the secret stays underivable.
abbrev pub stolen_after : Row
stolen_after = record {
  preferences = opposite;
  script = undisturbed_script ++ (Steal 1 ∷ Steal 0 ∷ []);
  seen = Robbed 0 ∷ Robbed 1 ∷ Ended 1 0 2 true ∷ Ends 0 1 2 true ∷ Answers 1 0 2 ∷ Calls 0 1 ∷ [];
  refused_by = clean ∷ clean ∷ [];
  known = [];
  kept = Fresh 1 1 ∷ [];
}

-- F. A third side: a reply to another is refused with 2, and the end of a session that it hasn't with 9.
abbrev pub third_side : Row
third_side = record {
  preferences = opposite ++ (2 ∷ []) ∷ [];
  script = Call 0 1 ∷ say_hello 1 first_hello ∷ say_reply 2 first_reply ∷ say_reply 0 first_reply ∷ Deliver 2 first_end ∷ Deliver 1 first_end ∷ [];
  seen = Ended 1 0 2 true ∷ Ends 0 1 2 true ∷ Answers 1 0 2 ∷ Calls 0 1 ∷ [];
  refused_by = clean ∷ clean ∷ slice_set (refused 2) 9 1 ∷ [];
  known = [];
  kept = Fresh 1 1 ∷ [];
}

abbrev pub table : List Row
table = one_way ∷ other_way ∷ struck ∷ twice ∷ stolen_before ∷ stolen_after ∷ third_side ∷ []

-- playing the script of a row gives what the row says
pub record Holds (r : Row) : Type 0 where
  pub proper : all_proper r.preferences ≡ true
  pub allowed : AllAllowed (rules symbols) (start r.preferences) r.script
  pub sees : sights (played r).log ≡ r.seen
  pub refuses : refusals (played r) ≡ r.refused_by
  pub derives : (t : Term) → Memᴰ t r.known → Gets (heard (played r).log) t
  pub keeps : (t : Term) → Memᴰ t r.kept → Gets (heard (played r).log) t → ⊥

-- Every row of the table holds.
abbrev pub EveryRowHolds : Type 0
EveryRowHolds = (r : Row) → Memᴰ r table → Holds r
