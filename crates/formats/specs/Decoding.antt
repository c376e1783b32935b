-- The three words read from bytes, field after field, up to the first fault. Assumes nothing.
use Rattle.std.specs.Prelude.{ℕ, ◌-◌, Bool, ◌&&◌, List, length, take, drop, Some, None, Ok, Err, Option, Result, nat_le}
use Rattle.words.specs.declared.fault.Fault.{Fault}
use Rattle.words.specs.declared.fault.Fault.TheVariants.{UnknownKind, BadLength, TooManyCiphers, CipherTwice}
use Rattle.words.specs.declared.registry.Kind.{Kind}
use Rattle.words.specs.declared.registry.Kind.TheVariants.{Hello as KindHello, Reply as KindReply, End as KindEnd, Record as KindRecord, Settings as KindSettings}
use Rattle.words.specs.Bytes.{kind_of}
use Rattle.words.specs.Faults.{fault_number}
use Rattle.words.specs.Registry.{kind_hello, kind_reply, kind_end}
use Rattle.protocol.specs.Got.{Got, No, Yes}
use Rattle.protocol.specs.Words.{Hello, Reply, Word, a_hello, a_reply, an_end}
use Rattle.formats.specs.Encoding.{hello_length, signature_length}
use Rattle.formats.specs.Reading.{with, and_then, must, byte, part, number, kind, done, behind_length, listing}

-- who calls and who is called, and what follows
abbrev pub names : List ℕ → Result (ℕ × ℕ × List ℕ) Fault
names bs =
    kind kind_hello bs (λ bs.
    number 2 bs (λ caller bs.
    number 2 bs (λ called bs.
    Ok (caller, called, bs))))

-- the nonce and the half, and what follows
abbrev pub keys : List ℕ → Result (List ℕ × List ℕ × List ℕ) Fault
keys bs =
    part 32 bs (λ nonce bs.
    part 32 bs (λ half bs.
    Ok (nonce, half, bs)))

-- a hello at the front of some bytes, and what follows it
abbrev pub hello_front : List ℕ → Result (Hello (List ℕ) × List ℕ) Fault
hello_front bs =
    and_then (names bs) (λ n.
    and_then (listing TooManyCiphers CipherTwice n.2) (λ offered.
    and_then (keys offered.1) (λ k.
    Ok (record { caller = n.0; called = n.1; offer = offered.0; nonce = k.0; half = k.1 }, k.2))))

abbrev pub read_hello : List ℕ → Result (Hello (List ℕ)) Fault
read_hello bs = and_then (hello_front bs) (λ p. done p.1 p.0)

-- what follows the hello in a reply, up to its end
abbrev pub answer : Hello (List ℕ) → List ℕ → Result (Reply (List ℕ)) Fault
answer hello bs =
    byte bs (λ choice bs.
    part 32 bs (λ nonce bs.
    part 32 bs (λ seal bs.
    part 48 bs (λ box bs.
    part 64 bs (λ signature bs.
    done bs (record { body = record { hello = hello; choice = choice; nonce = nonce; seal = seal; box = box }; signature = signature }))))))

abbrev pub read_reply : List ℕ → Result (Reply (List ℕ)) Fault
read_reply bs = and_then (behind_length kind_reply bs) (λ behind. and_then (hello_front behind) (λ p. answer p.0 p.1))

-- the hello in a reply, as it stands there
abbrev pub hello_part : List ℕ → Result (List ℕ) Fault
hello_part bs = and_then (behind_length kind_reply bs) (λ behind. with (λ p. take (hello_length p.0) behind) (hello_front behind))

-- what stands before a signature at the end, and the signature
abbrev pub before_signature : List ℕ → List ℕ
before_signature bs = take (length bs - signature_length) bs

abbrev pub last_signature : List ℕ → List ℕ
last_signature bs = drop (length bs - signature_length) bs

-- whether a reply and a signature, locked, can have so many bytes
abbrev pub lockable : ℕ → Bool
lockable n = nat_le 331 n && nat_le n 346

-- the locked bytes that an end holds
abbrev pub read_end : List ℕ → Result (List ℕ) Fault
read_end bs = and_then (behind_length kind_end bs) (λ behind. must (lockable (length behind)) BadLength (Ok behind))

-- by what the first byte stands for
abbrev pub read_as : Option Kind → List ℕ → Result (Word (List ℕ)) Fault
read_as (Some KindHello) bs = with a_hello (read_hello bs)
read_as (Some KindReply) bs = with a_reply (read_reply bs)
read_as (Some KindEnd) bs = with an_end (read_end bs)
read_as (Some KindRecord) bs = Err UnknownKind
read_as (Some KindSettings) bs = Err UnknownKind
read_as None bs = Err UnknownKind

abbrev pub read_word : List ℕ → Result (Word (List ℕ)) Fault
read_word bs = byte bs (λ b _. read_as (kind_of b) bs)

-- an answer with the number of the fault in place of its cause
abbrev pub got : {X : Type 0} → Result X Fault → Got X
got (Ok x) = Yes x
got (Err f) = No (fault_number f)
