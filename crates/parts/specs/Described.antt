-- What is shown of some bytes, by their kind, or why they are refused. Assumes nothing.
use Rattle.std.specs.Prelude.{ℕ, List, [], Some, None, Err, codes, Option, Result}
use Rattle.words.specs.declared.fault.Fault.{Fault}
use Rattle.words.specs.declared.fault.Fault.TheVariants.{UnknownKind}
use Rattle.words.specs.declared.registry.Kind.{Kind}
use Rattle.words.specs.declared.registry.Kind.TheVariants.{Hello, Reply, End, Record, Settings}
use Rattle.words.specs.Bytes.{kind_of}
use Rattle.formats.specs.Reading.{with, byte}
use Rattle.formats.specs.Decoding.{read_hello, read_reply, read_end}
use Rattle.record_formats.specs.Records.{read_record}
use Rattle.parts.specs.Lines.{title_on}
use Rattle.parts.specs.Parts.{hello_on, reply_on, end_on, record_on}

abbrev pub hello_shown : List ℕ → List ℕ → Result (List ℕ) Fault
hello_shown before bs = with (hello_on (title_on before [] (codes "hello")) (codes "  ")) (read_hello bs)

abbrev pub reply_shown : List ℕ → List ℕ → Result (List ℕ) Fault
reply_shown before bs = with (reply_on (title_on before [] (codes "reply"))) (read_reply bs)

abbrev pub end_shown : List ℕ → List ℕ → Result (List ℕ) Fault
end_shown before bs = with (end_on (title_on before [] (codes "end"))) (read_end bs)

abbrev pub record_shown : List ℕ → List ℕ → Result (List ℕ) Fault
record_shown before bs = with (record_on (title_on before [] (codes "record"))) (read_record bs)

-- settings are no word
abbrev pub shown_as : Option Kind → List ℕ → List ℕ → Result (List ℕ) Fault
shown_as (Some Hello) before bs = hello_shown before bs
shown_as (Some Reply) before bs = reply_shown before bs
shown_as (Some End) before bs = end_shown before bs
shown_as (Some Record) before bs = record_shown before bs
shown_as (Some Settings) before bs = Err UnknownKind
shown_as None before bs = Err UnknownKind

abbrev pub described : List ℕ → List ℕ → Result (List ℕ) Fault
described before bs = byte bs (λ b _. shown_as (kind_of b) before bs)
