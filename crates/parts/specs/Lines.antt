-- Lines of text behind a text, each with a name and a value. Assumes nothing.
use Rattle.std.specs.Prelude.{ℕ, ◌/◌, ◌%◌, false, List, [], ◌∷◌, ◌++◌, codes, decimal}
use Rattle.std.specs.Fmt.{digit_glyph}

-- bytes in hex, two digits each
abbrev pub hex_digits : List ℕ → List ℕ
hex_digits [] = []
hex_digits (b ∷ bs) = digit_glyph false (b / 16) ∷ (digit_glyph false (b % 16) ∷ hex_digits bs)

-- one line more
abbrev pub line_on : List ℕ → List ℕ → List ℕ → List ℕ → List ℕ
line_on before indent name value = ((((before ++ indent) ++ name) ++ codes ": ") ++ value) ++ (10 ∷ [])

abbrev pub number_on : List ℕ → List ℕ → List ℕ → ℕ → List ℕ
number_on before indent name n = line_on before indent name (decimal n)

abbrev pub bytes_on : List ℕ → List ℕ → List ℕ → List ℕ → List ℕ
bytes_on before indent name bs = line_on before indent name (hex_digits bs)

-- a title
abbrev pub title_on : List ℕ → List ℕ → List ℕ → List ℕ
title_on before indent title = ((before ++ indent) ++ title) ++ (10 ∷ [])

-- numbers, a line each
unfoldable pub numbers_on : List ℕ → List ℕ → List ℕ → List ℕ → List ℕ
numbers_on before indent name [] = before
numbers_on before indent name (n ∷ ns) = numbers_on (number_on before indent name n) indent name ns
