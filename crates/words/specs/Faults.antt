-- Each fault's number. Assumes nothing.
use Rattle.std.specs.Prelude.{ℕ}
use Rattle.words.specs.declared.fault.Fault.{Fault}
use Rattle.words.specs.declared.fault.Fault.TheVariants.{UnknownKind, BadLength, NoCipher, TooManyCiphers, CipherTwice, UnknownSide, NotForThisSide, NothingInCommon, NoSuchCall, BadSignature, NotOffered, SealShut, CommonOne, NoAnsweredSession, NoEndedSession, OtherReply, SettingsUnknownSide, SettingsTooManySides, SettingsTooManyCiphers, SettingsCipherTwice, SettingsOtherKey, RecordOutOfOrder, RecordShut, CipherWithoutRecords, RecordsUsedUp}
use Rattle.words.specs.Numbers.{malformed, wrong_side, nothing_in_common, no_such_call, bad_signature, not_offered, seal_shut, common_one, no_such_session, other_reply, bad_settings, record_refused, records_used_up}

-- the number by which a refusal is counted
abbrev pub fault_number : Fault → ℕ
fault_number UnknownKind = malformed
fault_number BadLength = malformed
fault_number NoCipher = malformed
fault_number TooManyCiphers = malformed
fault_number CipherTwice = malformed
fault_number UnknownSide = wrong_side
fault_number NotForThisSide = wrong_side
fault_number NothingInCommon = nothing_in_common
fault_number NoSuchCall = no_such_call
fault_number BadSignature = bad_signature
fault_number NotOffered = not_offered
fault_number SealShut = seal_shut
fault_number CommonOne = common_one
fault_number NoAnsweredSession = no_such_session
fault_number NoEndedSession = no_such_session
fault_number OtherReply = other_reply
fault_number SettingsUnknownSide = bad_settings
fault_number SettingsTooManySides = bad_settings
fault_number SettingsTooManyCiphers = bad_settings
fault_number SettingsCipherTwice = bad_settings
fault_number SettingsOtherKey = bad_settings
fault_number RecordOutOfOrder = record_refused
fault_number RecordShut = record_refused
fault_number CipherWithoutRecords = record_refused
fault_number RecordsUsedUp = records_used_up
