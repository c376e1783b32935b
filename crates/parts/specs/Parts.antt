-- The parts of words, records and settings as lines of text. Assumes nothing.
use Rattle.std.specs.Prelude.{ℕ, zero, suc, ◌/◌, List, length, take, drop, codes}
use Rattle.protocol.specs.Words.{Hello, Reply}
use Rattle.record_formats.specs.Records.{Record}
use Rattle.parts.specs.Lines.{number_on, bytes_on, title_on, numbers_on}

abbrev pub hello_on : List ℕ → List ℕ → Hello (List ℕ) → List ℕ
hello_on before indent h =
    bytes_on (bytes_on (numbers_on (number_on (number_on before
    indent (codes "caller") h.caller)
    indent (codes "called side") h.called)
    indent (codes "cipher offered") h.offer)
    indent (codes "caller's nonce") h.nonce)
    indent (codes "caller's ephemeral public key") h.half

-- what follows the hello in a reply
abbrev pub answer_on : List ℕ → Reply (List ℕ) → List ℕ
answer_on before r =
    bytes_on (bytes_on (bytes_on (bytes_on (number_on before
    (codes "  ") (codes "choice") r.body.choice)
    (codes "  ") (codes "called side's nonce") r.body.nonce)
    (codes "  ") (codes "seal: its public key") r.body.seal)
    (codes "  ") (codes "seal: encrypted secret and tag") r.body.box)
    (codes "  ") (codes "called side's signature") r.signature

abbrev pub reply_on : List ℕ → Reply (List ℕ) → List ℕ
reply_on before r = answer_on (hello_on (title_on before (codes "  ") (codes "hello")) (codes "    ") r.body.hello) r

-- an end shows nothing of what it holds
abbrev pub end_on : List ℕ → List ℕ → List ℕ
end_on before locked = bytes_on before (codes "  ") (codes "reply and caller's signature, encrypted, and tag") locked

abbrev pub record_on : List ℕ → Record (List ℕ) → List ℕ
record_on before r =
    bytes_on (number_on (bytes_on before
    (codes "  ") (codes "session") r.session)
    (codes "  ") (codes "number") r.number)
    (codes "  ") (codes "content and tag") r.closed

-- so many public keys
unfoldable pub keys_on : List ℕ → ℕ → List ℕ → List ℕ
keys_on before zero bs = before
keys_on before (suc n) bs = keys_on (bytes_on before (codes "  ") (codes "identity public key") (take 32 bs)) n (drop 32 bs)

-- settings without the own key: the number, the preferences and the halves
abbrev pub settings_on : List ℕ → ℕ → List ℕ → List ℕ → List ℕ
settings_on before own preferences halves =
    keys_on (numbers_on (number_on before
    (codes "  ") (codes "this side's number") own)
    (codes "  ") (codes "preference") preferences)
    (length halves / 32) halves
