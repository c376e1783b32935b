-- Laws of scripts: what doesn't matter on a line, and which preferences a side has after many lines. Assumes nothing.
use Rattle.std.specs.Prelude.{◌≡◌, ℕ, ◌<◌, true, cond, List, [], ◌∷◌, ◌++◌, length, Some, None, Option, ◌==◌, slice_index_or}
use Rattle.script.specs.Lines.{Line, nothing, wishes, calls, line}
use Rattle.script.specs.Playing.{Roster, after}
use Rattle.script.specs.Text.{blank, hash, uncommented}

-- a comment behind a line, and a blank before it, don't change what it says
pub record Ignored : Type 0 where
  pub comments : (bs more : List ℕ) (h : ℕ) → hash h ≡ true → line (uncommented bs ++ h ∷ more) ≡ line bs
  pub blanks : (bs : List ℕ) (b : ℕ) → blank b ≡ true → line (b ∷ bs) ≡ line bs

-- the sides after many lines
abbrev pub after_all : Roster → List Line → Roster
after_all sides [] = sides
after_all sides (l ∷ ls) = after_all (after sides l) ls

-- the preferences that a side has by the latest line about it
abbrev pub latest : ℕ → Option (List ℕ) → List Line → Option (List ℕ)
latest n before [] = before
latest n before (nothing ∷ ls) = latest n before ls
latest n before (wishes m cs ∷ ls) = latest n (cond (m == n) (Some cs) before) ls
latest n before (calls a b ∷ ls) = latest n before ls

-- a side is there, with the preferences of its latest `side` line, and no other line changes them
abbrev pub LatestHold : Type 0
LatestHold = (sides : Roster) (ls : List Line) (n : ℕ) → n < length sides → slice_index_or (after_all sides ls) n None ≡ latest n (slice_index_or sides n None) ls
