-- The rows of the table: what is seen and refused, by computation; what is delivered, derived. Assumes nothing.
use Rattle.std.proofs.Common.{◌≡◌, ◌⊎◌, List, [], ◌∷◌, sym, refl, subst, inl, inr}
use mathlib.Core.List.Memᴰ
use mathlib.Core.List.{Memᴰ}
use Rattle.symbolic.specs.Key.{own, made}
use Rattle.symbolic.specs.Term.{Term, Fresh, Secret}
use Rattle.symbolic.specs.Derivable.{Gets, raw, number, listed, both, tag, sign, raise, mac, close}
use Rattle.protocol.specs.Event.{heard}
use Rattle.protocol.specs.World.{rules}
use Rattle.protocol.specs.Symbols.{symbols, hello_term, body_term, reply_term, start}
use Rattle.promise.specs.Promise.{identity, AllAllowed}
use Rattle.cases.specs.Table.{Row, played, hello, reply, end, first_hello, first_reply, first_end, struck_hello, forged_body, forged_reply, one_way, other_way, struck, twice, stolen_before, stolen_after, third_side, table, Holds, EveryRowHolds}
use Rattle.cases.proofs.Heard.{playing, first, second, third, fourth, hello_nonce, hello_half, own_half}
use Rattle.cases.proofs.Keeps.{only_one, kept_by}

-- a cipher is struck from a hello that was heard
strike : {ts : List Term} → Gets ts (hello_term first_hello) → Gets ts (hello_term struck_hello)
strike g = tag (both number (both number (both listed (both (hello_nonce first_hello g) (hello_half first_hello g)))))

-- a reply is made from a hello that was heard, with a stolen key and a drawn value and key
forge : {ts : List Term} → Gets ts (Fresh 2 0) → Gets ts (Secret (made 2 0)) → Gets ts (hello_term (hello 0 1 (1 ∷ 2 ∷ []) 1)) → Gets ts (Secret (own 1 0)) → Gets ts (reply_term forged_reply)
unfolding playing
forge {ts} value key h stolen =
    let half = hello_half (hello 0 1 (1 ∷ 2 ∷ []) 1) h in
    let seal = own_half key in
    let body : Gets ts (body_term forged_body) = tag (both h (both number (both raw (both seal (close (mac (raise key half) (both half seal)) number value))))) in
    both body (sign stolen body)

one_way_allowed : AllAllowed (rules symbols) (start one_way.preferences) one_way.script
unfolding playing
one_way_allowed = (tt, (first, (first, (first, tt))))

one_way_holds : Holds one_way
unfolding playing
one_way_holds = record {
  proper = refl;
  allowed = one_way_allowed;
  sees = refl;
  refuses = refl;
  derives = λ t m. elim m [ ];
  keeps = λ t m g. kept_by one_way refl one_way_allowed 1 (record { me = 0; their = identity 1; reply = first_reply; secret = Fresh 1 1 }) (first_end ∷ []) refl refl refl refl (subst (λ x. Gets (heard (played one_way).log) x) (only_one m) g);
}

other_way_allowed : AllAllowed (rules symbols) (start other_way.preferences) other_way.script
unfolding playing
other_way_allowed = (tt, (first, (first, (first, tt))))

other_way_holds : Holds other_way
unfolding playing
other_way_holds = record {
  proper = refl;
  allowed = other_way_allowed;
  sees = refl;
  refuses = refl;
  derives = λ t m. elim m [ ];
  keeps = λ t m g. kept_by other_way refl other_way_allowed 1 (record { me = 1; their = identity 0; reply = (reply 0 (hello 1 0 (2 ∷ 1 ∷ []) 0) 1 1); secret = Fresh 1 1 }) ((end 1 (reply 0 (hello 1 0 (2 ∷ 1 ∷ []) 0) 1 1) 1) ∷ []) refl refl refl refl (subst (λ x. Gets (heard (played other_way).log) x) (only_one m) g);
}

struck_allowed : AllAllowed (rules symbols) (start struck.preferences) struck.script
unfolding playing
struck_allowed = (tt, (strike first, (first, tt)))

struck_holds : Holds struck
unfolding playing
struck_holds = record {
  proper = refl;
  allowed = struck_allowed;
  sees = refl;
  refuses = refl;
  derives = λ t m. elim m [ ];
  keeps = λ t m g. elim m [ ];
}

twice_allowed : AllAllowed (rules symbols) (start twice.preferences) twice.script
unfolding playing
twice_allowed = (tt, (first, (second, (first, (third, (first, (first, tt)))))))

twice_holds : Holds twice
unfolding playing
twice_holds = record {
  proper = refl;
  allowed = twice_allowed;
  sees = refl;
  refuses = refl;
  derives = λ t m. elim m [ ];
  keeps = λ t m g. kept_by twice refl twice_allowed 1 (record { me = 0; their = identity 1; reply = (reply 1 first_hello 2 2); secret = Fresh 2 1 }) ((end 0 (reply 1 first_hello 2 2) 2) ∷ []) refl refl refl refl (subst (λ x. Gets (heard (played twice).log) x) (only_one m) g);
}

stolen_before_allowed : AllAllowed (rules symbols) (start stolen_before.preferences) stolen_before.script
unfolding playing
stolen_before_allowed = (tt, (tt, (tt, (forge first second third fourth, tt))))

stolen_before_holds : Holds stolen_before
unfolding playing
stolen_before_holds = record {
  proper = refl;
  allowed = stolen_before_allowed;
  sees = refl;
  refuses = refl;
  derives = λ t m. subst (λ x. Gets (heard (played stolen_before).log) x) (sym (only_one m)) second;
  keeps = λ t m g. elim m [ ];
}

stolen_after_allowed : AllAllowed (rules symbols) (start stolen_after.preferences) stolen_after.script
unfolding playing
stolen_after_allowed = (tt, (first, (first, (first, (tt, (tt, tt))))))

stolen_after_holds : Holds stolen_after
unfolding playing
stolen_after_holds = record {
  proper = refl;
  allowed = stolen_after_allowed;
  sees = refl;
  refuses = refl;
  derives = λ t m. elim m [ ];
  keeps = λ t m g. kept_by stolen_after refl stolen_after_allowed 3 (record { me = 0; their = identity 1; reply = first_reply; secret = Fresh 1 1 }) (first_end ∷ []) refl refl refl refl (subst (λ x. Gets (heard (played stolen_after).log) x) (only_one m) g);
}

third_side_allowed : AllAllowed (rules symbols) (start third_side.preferences) third_side.script
unfolding playing
third_side_allowed = (tt, (first, (first, (first, (first, (first, tt))))))

third_side_holds : Holds third_side
unfolding playing
third_side_holds = record {
  proper = refl;
  allowed = third_side_allowed;
  sees = refl;
  refuses = refl;
  derives = λ t m. elim m [ ];
  keeps = λ t m g. kept_by third_side refl third_side_allowed 1 (record { me = 0; their = identity 1; reply = first_reply; secret = Fresh 1 1 }) (first_end ∷ []) refl refl refl refl (subst (λ x. Gets (heard (played third_side).log) x) (only_one m) g);
}

-- what holds of each row of a list, row by row
abbrev AllHold : List Row → Type 0
AllHold [] = Unit {0}
AllHold (r ∷ rs) = Holds r × AllHold rs

one_of : (rs : List Row) → AllHold rs → (r : Row) → Memᴰ r rs → Holds r
one_of [] h r m = elim m [ ]
one_of (x ∷ rs) h r m = go (Memᴰ.cases_cons m) (one_of rs h.1 r)
  where
    go : (r ≡ x) ⊎ Memᴰ r rs → (Memᴰ r rs → Holds r) → Holds r
    go (inl e) rest = subst Holds (sym e) h.0
    go (inr n) rest = rest n

pub every_row_holds : EveryRowHolds
every_row_holds = one_of table (one_way_holds, (other_way_holds, (struck_holds, (twice_holds, (stolen_before_holds, (stolen_after_holds, (third_side_holds, tt)))))))
