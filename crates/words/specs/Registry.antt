-- Every first byte that has a meaning: kinds of words, marks before what is signed, bytes that keys are derived from. Assumes nothing.
use Rattle.std.specs.Prelude.{ℕ}

-- kinds: the first byte of a word, of a record and of a settings file
abbrev pub kind_hello : ℕ
kind_hello = 1

abbrev pub kind_reply : ℕ
kind_reply = 2

abbrev pub kind_end : ℕ
kind_end = 3

abbrev pub kind_record : ℕ
kind_record = 4

abbrev pub kind_settings : ℕ
kind_settings = 8

-- marks: the first byte of what is signed, which is the kind of the word that the signature stands in
abbrev pub mark_reply : ℕ
mark_reply = kind_reply

abbrev pub mark_end : ℕ
mark_end = kind_end

-- derivations: the first byte of what is put under a secret to make a key
abbrev pub derive_lock : ℕ
derive_lock = 4

abbrev pub derive_to_called : ℕ
derive_to_called = 5

abbrev pub derive_to_caller : ℕ
derive_to_caller = 6
