-- Sealing for a public half, in place: room for the seal's own half, the content, room for a tag. Assumes nothing.
use Rattle.std.specs.Prelude.{◌≡◌, ℕ, true, false, List, [], ◌++◌, take, drop, Ok, Err, Result, ◌≢◌}
use Rattle.hashes.specs.Hmac.{hmac_sha256}
use Rattle.aead.specs.Closing.{closed, content, fits, Tagged, Opening}
use Rattle.aead.specs.Behind.{Behind}
use Rattle.primitives.specs.Group.{GroupModel, half}
use Rattle.primitives.specs.declared.seals.NotSealed.{NotSealed}
use Rattle.primitives.specs.declared.seals.NotSealed.TheVariants.{SealedToOne, NoRoom}
use Rattle.primitives.specs.declared.seals.NotOpened.{NotOpened}
use Rattle.primitives.specs.declared.seals.NotOpened.TheVariants.{Shut, OpenedByOne}

abbrev pub half_length : ℕ
half_length = 32

-- the key of a seal: the sum over the half that is sealed for and the seal's own half, under their common element
abbrev pub seal_key : List ℕ → List ℕ → List ℕ → List ℕ
seal_key common theirs own = hmac_sha256 common (theirs ++ own)

-- the key under which x seals for a half, and the one under which the key of that half opens what another half sealed
abbrev pub sealing_key : GroupModel → List ℕ → List ℕ → List ℕ
sealing_key g x theirs = seal_key (g.raise x theirs) theirs (half g x)

abbrev pub opening_key : GroupModel → List ℕ → List ℕ → List ℕ
opening_key g key own = seal_key (g.raise key own) (half g key) own

-- a content sealed for a half by the key x
abbrev pub sealed : GroupModel → List ℕ → List ℕ → List ℕ → List ℕ
sealed g x theirs m = half g x ++ closed (sealing_key g x theirs) 0 [] m

-- the half that stands at the front, what is closed behind it, and the content's place in that
abbrev pub front_half : List ℕ → List ℕ
front_half bs = take half_length bs

abbrev pub behind_half : List ℕ → List ℕ
behind_half bs = drop half_length bs

abbrev pub seal_content : List ℕ → List ℕ
seal_content bs = content (behind_half bs)

-- sealing in place; refused are the group's one as a common element, and then what has no room or is too long. Refused bytes stay as they were
abbrev pub Sealing : GroupModel → List ℕ → List ℕ → List ℕ → List ℕ → Result (Unit {0}) NotSealed → Type 0
Sealing g x theirs before after (Ok _) = (g.raise x theirs ≢ g.one) × (fits (behind_half before) ≡ true) × (after ≡ sealed g x theirs (seal_content before))
Sealing g x theirs before after (Err SealedToOne) = (g.raise x theirs ≡ g.one) × (after ≡ before)
Sealing g x theirs before after (Err NoRoom) = (g.raise x theirs ≢ g.one) × (fits (behind_half before) ≡ false) × (after ≡ before)

-- whether a seal has the right tag for this key
abbrev pub SealFits : GroupModel → List ℕ → List ℕ → Type 0
SealFits g key bs = Tagged (opening_key g key (front_half bs)) [] (behind_half bs)

-- opening in place: what stands behind the half is opened. Refused is what doesn't open, and then the group's one as a common element; refused bytes stay as they were
abbrev pub Unsealing : GroupModel → List ℕ → List ℕ → List ℕ → Result (Unit {0}) NotOpened → Type 0
Unsealing g key before after (Ok _) = (g.raise key (front_half before) ≢ g.one) × Behind half_length (λ closed_part opened_part. Opening (opening_key g key (front_half before)) 0 [] closed_part opened_part true) before after
Unsealing g key before after (Err Shut) = (SealFits g key before → ⊥) × (after ≡ before)
Unsealing g key before after (Err OpenedByOne) = (g.raise key (front_half before) ≡ g.one) × SealFits g key before × (after ≡ before)

-- What was sealed for the half of a key opens with that key, and gives the content back.
abbrev pub SealedOpens : GroupModel → Type 0
SealedOpens g = (x key before between after : List ℕ) (answer : Result (Unit {0}) NotOpened) → Sealing g x (half g key) before between (Ok tt) → Unsealing g key between after answer → (answer ≡ Ok tt) × (seal_content after ≡ seal_content before)

-- What opens is exactly what closing its content under that key gives.
abbrev pub OnlySealedOpens : GroupModel → Type 0
OnlySealedOpens g = (key before after : List ℕ) → Unsealing g key before after (Ok tt) → before ≡ front_half before ++ closed (opening_key g key (front_half before)) 0 [] (seal_content after)

-- Different contents are sealed into different bytes.
abbrev pub SealedApart : GroupModel → Type 0
SealedApart g = (x theirs a b : List ℕ) → sealed g x theirs a ≡ sealed g x theirs b → a ≡ b
