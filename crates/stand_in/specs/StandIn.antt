-- The stand-in: elements and keys stand for numbers modulo 2^64, and signatures are sums under the public half. It protects nothing. Assumes nothing.
use Rattle.std.specs.Prelude.{List, ◌++◌, ℕ, ◌*◌, ◌%◌, ◌^◌, drop}
use Rattle.fixed_bytes.specs.Numbers.{big_endian, value}
use Rattle.fixed_bytes.specs.Same.{same}
use Rattle.fixed_bytes.specs.Zeros.{zeros}
use Rattle.hashes.specs.Hmac.{hmac_sha256}
use Rattle.primitives.specs.Group.{GroupModel, half}
use Rattle.primitives.specs.Signatures.{SignatureModel}

-- the number that 32 bytes stand for: that of the last 8, high byte first; the first 24 aren't looked at
abbrev pub number : List ℕ → ℕ
number bs = value (drop 24 bs)

-- a number as an element: 24 zeros, and 8 bytes
abbrev pub element : ℕ → List ℕ
element n = zeros 24 ++ big_endian 8 n

-- the base is 5, the one is 0, and raising is the product modulo 2^64
abbrev pub stand_in_group : GroupModel
stand_in_group = record { base = element 5; one = zeros 32; raise = λ x e. element (number x * number e % 2 ^ 64) }

-- the signature of who has this public half, which anybody can make: a sum, and 32 zeros behind it
abbrev pub signature_of : List ℕ → List ℕ → List ℕ
signature_of public m = hmac_sha256 public m ++ zeros 32

-- all 64 bytes are compared
abbrev pub stand_in_signatures : SignatureModel
stand_in_signatures = record { public = half stand_in_group; sign = λ k m. signature_of (half stand_in_group k) m; verifies = λ p m s. same (signature_of p m) s }
