-- The numbers by which refusals are counted. Assumes nothing.
use Rattle.std.specs.Prelude.{ℕ}

-- an unknown kind, a bad length, a count of 0 or above 16, a cipher twice
abbrev pub malformed : ℕ
malformed = 1

-- a side that isn't there, or a word that isn't for this side
abbrev pub wrong_side : ℕ
wrong_side = 2

-- no cipher in common
abbrev pub nothing_in_common : ℕ
nothing_in_common = 3

-- no open call with this hello
abbrev pub no_such_call : ℕ
no_such_call = 4

-- a signature that doesn't verify
abbrev pub bad_signature : ℕ
bad_signature = 5

-- a choice that wasn't offered
abbrev pub not_offered : ℕ
not_offered = 6

-- a seal that doesn't open
abbrev pub seal_shut : ℕ
seal_shut = 7

-- a common element that is the group's one
abbrev pub common_one : ℕ
common_one = 8

-- no answered session whose secret opens this end, or no ended session for this record
abbrev pub no_such_session : ℕ
no_such_session = 9

-- an end whose content isn't that session's reply
abbrev pub other_reply : ℕ
other_reply = 10

-- settings that can't be
abbrev pub bad_settings : ℕ
bad_settings = 11

-- a record out of order, or one that doesn't open
abbrev pub record_refused : ℕ
record_refused = 12

-- every record number of one way is used
abbrev pub records_used_up : ℕ
records_used_up = 13
