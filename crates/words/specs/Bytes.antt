-- The first byte of each kind, mark and derivation, and that none has two purposes. Assumes nothing.
use Rattle.std.specs.Prelude.{◌≡◌, ℕ, cond, Some, None, Ok, Err, Option, Result, ◌==◌, ◌≢◌}
use Rattle.words.specs.declared.registry.Kind.{Kind}
use Rattle.words.specs.declared.registry.Kind.TheVariants.{Hello, Reply, End, Record, Settings}
use Rattle.words.specs.declared.registry.Mark.{Mark}
use Rattle.words.specs.declared.registry.Mark.TheVariants.{OnReply, OnEnd}
use Rattle.words.specs.declared.registry.Derivation.{Derivation}
use Rattle.words.specs.declared.registry.Derivation.TheVariants.{Lock, ToCalled, ToCaller}
use Rattle.words.specs.declared.fault.Fault.{Fault}
use Rattle.words.specs.declared.fault.Fault.TheVariants.{UnknownKind}
use Rattle.words.specs.Registry.{kind_hello, kind_reply, kind_end, kind_record, kind_settings, mark_reply, mark_end, derive_lock, derive_to_called, derive_to_caller}

abbrev pub kind_byte : Kind → ℕ
kind_byte Hello = kind_hello
kind_byte Reply = kind_reply
kind_byte End = kind_end
kind_byte Record = kind_record
kind_byte Settings = kind_settings

abbrev pub mark_byte : Mark → ℕ
mark_byte OnReply = mark_reply
mark_byte OnEnd = mark_end

abbrev pub derivation_byte : Derivation → ℕ
derivation_byte Lock = derive_lock
derivation_byte ToCalled = derive_to_called
derivation_byte ToCaller = derive_to_caller

-- the kind that a byte stands for
abbrev pub kind_of : ℕ → Option Kind
kind_of b =
    cond (b == kind_hello) (Some Hello)
    (cond (b == kind_reply) (Some Reply)
    (cond (b == kind_end) (Some End)
    (cond (b == kind_record) (Some Record)
    (cond (b == kind_settings) (Some Settings) None))))

-- an answer that names the one kind with this byte, or says that no kind has it
abbrev pub Names : ℕ → Option Kind → Type 0
Names b None = (k : Kind) → kind_byte k ≢ b
Names b (Some k) = kind_byte k ≡ b

-- a kind that there must be
abbrev pub known : Option Kind → Result Kind Fault
known None = Err UnknownKind
known (Some k) = Ok k

-- the answer to a byte: its kind, which no other kind has, or that no kind has it
pub record Decodes (b : ℕ) (answer : Result Kind Fault) : Type 0 where
  pub value : answer ≡ known (kind_of b)
  pub exact : Names b (kind_of b)

-- no two of a family have one byte
abbrev pub Apart : {X : Type 0} → (X → ℕ) → Type 0
Apart {X} byte = (a b : X) → byte a ≡ byte b → a ≡ b

pub record OnePurposeEach : Type 0 where
  pub kinds : Apart kind_byte
  pub marks : Apart mark_byte
  pub derivations : Apart derivation_byte
