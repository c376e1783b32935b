-- The code's words as the protocol's, over bytes. Assumes nothing.
use Rattle.std.specs.Prelude.{ℕ, List, drop}
use Rattle.std.specs.Borrow.{Bor}
use Rattle.words.specs.Listed.{listed}
use Rattle.protocol.specs.Words as words
use Rattle.formats.specs.declared.hello.Hello.{Hello}
use Rattle.formats.specs.declared.reply.Body.{Body}
use Rattle.formats.specs.declared.reply.Reply.{Reply}
use Rattle.formats.specs.declared.word.Word.{Word}
use Rattle.formats.specs.declared.word.Word.TheVariants as variant

abbrev pub as_hello : Hello → words.Hello (List ℕ)
as_hello h = record { caller = h.caller; called = h.called; offer = listed h.offer; nonce = h.nonce.0.bytes; half = h.half.0.bytes }

abbrev pub as_body : Body → words.Body (List ℕ)
as_body b = record { hello = as_hello b.hello; choice = b.choice.number; nonce = b.nonce.0.bytes; seal = b.seal.0.bytes; box = b.sealed.bytes }

abbrev pub as_reply : Reply → words.Reply (List ℕ)
as_reply r = record { body = as_body r.body; signature = r.signature.0.bytes }

-- a word that was read from some bytes; what an end holds stands there, behind its kind and length
abbrev pub as_word : List ℕ → Word → words.Word (List ℕ)
as_word bs (variant.Hello h) = words.a_hello (as_hello h)
as_word bs (variant.Reply r) = words.a_reply (as_reply r)
as_word bs variant.End = words.an_end (drop 3 bs)

-- a part of some bytes
abbrev pub seen : Bor (List ℕ) → List ℕ
seen r = r.now

-- two numbers and what follows them
abbrev pub named : ℕ × ℕ × Bor (List ℕ) → ℕ × ℕ × List ℕ
named p = (p.0, p.1, p.2.now)
