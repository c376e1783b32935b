-- The three words as bytes, field after field. Assumes nothing.
use Rattle.std.specs.Prelude.{ℕ, ◌+◌, List, ◌∷◌, ◌++◌, length}
use Rattle.fixed_bytes.specs.Numbers.{big_endian}
use Rattle.words.specs.Registry.{kind_hello, kind_reply, kind_end, mark_end}
use Rattle.protocol.specs.Words.{Hello, Body, Reply, Word, a_hello, a_reply, an_end}

-- a list of ciphers behind its count
abbrev pub listed_bytes : List ℕ → List ℕ
listed_bytes cs = length cs ∷ cs

abbrev pub hello_bytes : Hello (List ℕ) → List ℕ
hello_bytes h = kind_hello ∷ (big_endian 2 h.caller ++ (big_endian 2 h.called ++ (listed_bytes h.offer ++ (h.nonce ++ h.half))))

-- how many bytes a hello has, with nonce and half of 32 bytes
abbrev pub hello_length : Hello (List ℕ) → ℕ
hello_length h = 70 + length h.offer

-- how many bytes a signature has, and a tag
abbrev pub signature_length : ℕ
signature_length = 64

abbrev pub tag_length : ℕ
tag_length = 16

-- what stands between the hello and the signature of a reply
abbrev pub answer_bytes : Body (List ℕ) → List ℕ
answer_bytes b = b.choice ∷ (b.nonce ++ (b.seal ++ b.box))

-- what the signature of a reply is over: all before it
abbrev pub body_bytes : Body (List ℕ) → List ℕ
body_bytes b = kind_reply ∷ (big_endian 2 (length (hello_bytes b.hello ++ answer_bytes b) + signature_length) ++ (hello_bytes b.hello ++ answer_bytes b))

abbrev pub reply_bytes : Reply (List ℕ) → List ℕ
reply_bytes r = body_bytes r.body ++ r.signature

-- what the signature of an end is over: the kind, the length as it is sent, and the whole reply
abbrev pub claim_bytes : List ℕ → List ℕ
claim_bytes reply = mark_end ∷ (big_endian 2 (length reply + (signature_length + tag_length)) ++ reply)

-- an end, by the locked bytes that it holds
abbrev pub end_bytes : List ℕ → List ℕ
end_bytes locked = kind_end ∷ (big_endian 2 (length locked) ++ locked)

abbrev pub word_bytes : Word (List ℕ) → List ℕ
word_bytes (a_hello h) = hello_bytes h
word_bytes (a_reply r) = reply_bytes r
word_bytes (an_end x) = end_bytes x
