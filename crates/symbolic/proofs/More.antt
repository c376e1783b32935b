-- Who has heard more derives no less. Assumes nothing.
use Rattle.std.proofs.Common.{List}
use mathlib.Core.List.{Memᴰ}
use Rattle.symbolic.specs.Term.{Term}
use Rattle.symbolic.specs.Derivable.{Gets, by_ear, raw, number, listed, public, one, small, generator, plain_key, both, left, right, tag, untag, sign, signed, raise, digest, mac, close, unclose, head}

pub more_gets : {few many : List Term} → ((t : Term) → Memᴰ t few → Memᴰ t many) → {t : Term} → Gets few t → Gets many t
more_gets sub (by_ear {t = x} m) = by_ear (sub x m)
more_gets sub raw = raw
more_gets sub number = number
more_gets sub listed = listed
more_gets sub public = public
more_gets sub one = one
more_gets sub small = small
more_gets sub generator = generator
more_gets sub plain_key = plain_key
more_gets sub (both p q) = both (more_gets sub p) (more_gets sub q)
more_gets sub (left b p) = left b (more_gets sub p)
more_gets sub (right a p) = right a (more_gets sub p)
more_gets sub (tag p) = tag (more_gets sub p)
more_gets sub (untag n p) = untag n (more_gets sub p)
more_gets sub (sign p q) = sign (more_gets sub p) (more_gets sub q)
more_gets sub (signed k p) = signed k (more_gets sub p)
more_gets sub (raise p q) = raise (more_gets sub p) (more_gets sub q)
more_gets sub (digest p) = digest (more_gets sub p)
more_gets sub (mac p q) = mac (more_gets sub p) (more_gets sub q)
more_gets sub (close p q v) = close (more_gets sub p) (more_gets sub q) (more_gets sub v)
more_gets sub (unclose k h n p q) = unclose k h n (more_gets sub p) (more_gets sub q)
more_gets sub (head k m n p) = head k m n (more_gets sub p)
