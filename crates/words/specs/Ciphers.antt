-- Ciphers by their numbers. Assumes nothing.
use Rattle.std.specs.Prelude.{ℕ, List, map, Option}
use Rattle.std.specs.Option.{option_map}
use Rattle.words.specs.declared.cipher.Cipher.{Cipher}

abbrev pub numbers : List Cipher → List ℕ
numbers cs = map (λ c. c.number) cs

-- the number of a cipher that is there
abbrev pub number_of : Option Cipher → Option ℕ
number_of c = option_map (λ x. x.number) c
