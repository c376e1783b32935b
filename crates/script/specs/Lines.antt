-- What a line of a script says, and what was expected where it can't be read. Assumes nothing.
use Rattle.std.specs.Prelude.{◌≡◌, ℕ, zero, suc, cond, List, [], ◌∷◌, ◌++◌, length, Some, None, Ok, Err, codes, Option, Result, ◌==◌, nat_lt}
use Rattle.std.specs.Str.{bytes_eq}
use Rattle.words.specs.declared.preferences.Preferences.{Preferences}
use Rattle.words.specs.Choice.{holds, most_ciphers}
use Rattle.words.specs.Listed.{listed}
use Rattle.script.specs.declared.side_number.SideNumber.{SideNumber}
use Rattle.script.specs.declared.command.Command.{Command}
use Rattle.script.specs.declared.command.Command.TheVariants.{Side, Call}
use Rattle.script.specs.declared.expected.Expected.{Expected}
use Rattle.script.specs.declared.expected.Expected.TheVariants.{CommandName, NumberOfSide, WishesWord, NumberOfCipher, AtMostSixteen, NoneTwice, LineEnd}
use Rattle.script.specs.Text.{uncommented, word, behind, decimal, and_then, most_sides}

-- what a line says: nothing, a side's number and its ciphers, or who calls whom
pub data Line : Type 0 where
  nothing : Line
  wishes : ℕ → List ℕ → Line
  calls : ℕ → ℕ → Line

-- a command as what its line says
abbrev pub says : Command → Line
says (Side n p) = wishes n.number (listed p)
says (Call c) = calls c.caller.number c.called.number

-- the same of a line that may have no command, which says nothing
abbrev pub said : Option Command → Line
said None = nothing
said (Some c) = says c

-- an answer with one value as one with what it stands for
abbrev pub seen : {X Y : Type 0} → (X → Y) → Result X Expected → Result Y Expected
seen view (Ok x) = Ok (view x)
seen view (Err e) = Err e

-- a side as its number
abbrev pub number_of : SideNumber → ℕ
number_of s = s.number

-- the side with a number, if there can be one, or else that its number was expected
abbrev pub Numbered : ℕ → Result SideNumber Expected → Type 0
Numbered n side = seen number_of side ≡ cond (nat_lt n most_sides) (Ok n) (Err NumberOfSide)

-- a side's number
abbrev pub side_number : List ℕ → Option ℕ
side_number w = and_then (decimal w) (λ n. cond (nat_lt n most_sides) (Some n) None)

-- what is there, or what was expected in its place
abbrev pub needs : {X Y : Type 0} → Option X → Expected → (X → Result Y Expected) → Result Y Expected
needs None e k = Err e
needs (Some x) e k = k x

-- the first word and what follows it, handed on
abbrev pub next : {X : Type 0} → List ℕ → (List ℕ → List ℕ → X) → X
next bs k = k (word bs) (behind bs)

abbrev pub empty : {X : Type 0} → List ℕ → X → X → X
empty w x y = cond (length w == 0) x y

-- the line must end here
abbrev pub ends : {X : Type 0} → List ℕ → X → Result X Expected
ends bs x = next bs (λ w rest. empty w (Ok x) (Err LineEnd))

-- more ciphers behind those that are read, up to the line's end, with room for so many
unfoldable pub more_ciphers : ℕ → List ℕ → List ℕ → Result (List ℕ) Expected
more_ciphers zero cs bs = next bs (λ w rest. empty w (Ok cs) (needs (decimal w) NumberOfCipher (λ c. Err AtMostSixteen)))
more_ciphers (suc room) cs bs = next bs (λ w rest. empty w (Ok cs) (needs (decimal w) NumberOfCipher (λ c. cond (holds cs c) (Err NoneTwice) (more_ciphers room (cs ++ c ∷ []) rest))))

-- 1 to 16 ciphers, none twice, up to the line's end
abbrev pub ciphers : List ℕ → Result (List ℕ) Expected
ciphers bs = next bs (λ w rest. needs (decimal w) NumberOfCipher (λ c. more_ciphers 15 (c ∷ []) rest))

-- after `side`
abbrev pub side_line : List ℕ → Result Line Expected
side_line bs = next bs (λ w rest. needs (side_number w) NumberOfSide (λ n. next rest (λ v last. cond (bytes_eq v (codes "wishes")) (seen (wishes n) (ciphers last)) (Err WishesWord))))

-- after `call`
abbrev pub call_line : List ℕ → Result Line Expected
call_line bs = next bs (λ w rest. needs (side_number w) NumberOfSide (λ a. next rest (λ v last. needs (side_number v) NumberOfSide (λ b. ends last (calls a b)))))

-- by the first word, which is empty on a blank line, and what follows it
abbrev pub first_word : List ℕ → List ℕ → Result Line Expected
first_word w rest = empty w (Ok nothing) (cond (bytes_eq w (codes "side")) (side_line rest) (cond (bytes_eq w (codes "call")) (call_line rest) (Err CommandName)))

-- a line of a script
abbrev pub line : List ℕ → Result Line Expected
line bs = next (uncommented bs) first_word

-- one cipher more behind others, or what was expected in its place
abbrev pub one_more : List ℕ → ℕ → Result (List ℕ) Expected
one_more cs c = cond (nat_lt (length cs) most_ciphers) (cond (holds cs c) (Err NoneTwice) (Ok (cs ++ c ∷ []))) (Err AtMostSixteen)

-- the same of preferences; what is refused leaves them as they were
abbrev pub Wished : Preferences → ℕ → Result (Unit {0}) Expected → Preferences → Type 0
Wished before c (Ok _) after = one_more (listed before) c ≡ Ok (listed after)
Wished before c (Err e) after = (one_more (listed before) c ≡ Err e) × (after ≡ before)
