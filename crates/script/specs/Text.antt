-- Words and numbers at the front of a text, a list of bytes. Assumes nothing.
use Rattle.std.specs.Prelude.{◌≡◌, ℕ, ◌+◌, ◌-◌, ◌*◌, Bool, cond, not, ◌&&◌, ◌||◌, List, [], ◌∷◌, length, Some, None, Option, ◌==◌, nat_le, is_none}
use Rattle.std.specs.Borrow.{Bor}

-- space, tab and carriage return separate words
abbrev pub blank : ℕ → Bool
blank b = b == 32 || b == 9 || b == 13

-- `#` begins a comment
abbrev pub hash : ℕ → Bool
hash b = b == 35

-- every other byte stands in a word
abbrev pub in_word : ℕ → Bool
in_word b = not (blank b)

-- what stands before the first byte that stops
unfoldable pub until : (ℕ → Bool) → List ℕ → List ℕ
until stop [] = []
until stop (b ∷ bs) = cond (stop b) [] (b ∷ until stop bs)

-- that byte and what follows it
unfoldable pub from : (ℕ → Bool) → List ℕ → List ℕ
from stop [] = []
from stop (b ∷ bs) = cond (stop b) (b ∷ bs) (from stop bs)

-- a text in two parts, cut before the first byte that stops
pub record IsCut (stop : ℕ → Bool) (bs front back : List ℕ) : Type 0 where
  pub front_is : front ≡ until stop bs
  pub back_is : back ≡ from stop bs

-- each answer about a byte, as given by a closure, is what a test answers
pub record Tests (gives : ℕ → Bool → Type 0) (test : ℕ → Bool) : Type 0 where
  pub each : (b : ℕ) (answer : Bool) → gives b answer → answer ≡ test b

abbrev pub uncommented : List ℕ → List ℕ
uncommented line = until hash line

-- the first word, empty where there is none, and what follows it
abbrev pub word : List ℕ → List ℕ
word bs = until blank (from in_word bs)

abbrev pub behind : List ℕ → List ℕ
behind bs = from blank (from in_word bs)

-- a word that is there, or the empty one where there is none
abbrev pub spelled : Option (Bor (List ℕ)) → List ℕ
spelled None = []
spelled (Some w) = w.now

-- the next word of a text, or none where that would be empty, and what follows it
pub record NextWord (bs : List ℕ) (found : Option (Bor (List ℕ))) (rest : List ℕ) : Type 0 where
  pub found_is : spelled found ≡ word bs
  pub none_where_empty : is_none found ≡ (length (word bs) == 0)
  pub rest_is : rest ≡ behind bs

-- the largest number of a script, and how many sides it can have
abbrev pub most_number : ℕ
most_number = 255

abbrev pub most_sides : ℕ
most_sides = 8

-- a number with one more decimal digit, `0` to `9`, behind it
abbrev pub with_digit : ℕ → ℕ → Option ℕ
with_digit n b = cond (nat_le 48 b && nat_le b 57 && nat_le (n * 10 + (b - 48)) most_number) (Some (n * 10 + (b - 48))) None

abbrev pub and_then : {X Y : Type 0} → Option X → (X → Option Y) → Option Y
and_then None k = None
and_then (Some x) k = k x

-- more digits behind a number
unfoldable pub with_digits : ℕ → List ℕ → Option ℕ
with_digits n [] = Some n
with_digits n (b ∷ bs) = and_then (with_digit n b) (λ m. with_digits m bs)

-- a number: some decimal digits, of a value of at most 255
abbrev pub decimal : List ℕ → Option ℕ
decimal bs = cond (length bs == 0) None (with_digits 0 bs)
