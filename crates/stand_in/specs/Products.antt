-- Products of 64-bit numbers, as bytes. Assumes nothing.
use Rattle.std.specs.Prelude.{List, ◌≡◌, refl, ℕ, ◌+◌, ◌-◌, ◌*◌, ◌/◌, ◌%◌, ◌^◌, length, drop}
use Rattle.std.proofs.Common.{sym, ap, ◌∙◌, mul_assoc, mul-add, mul_left_comm, mul-zero, div-add-mod', arith, length-drop, drop_at}
use Rattle.std.proofs.Math.Nat.{mod-mod, mul-add-mod_self_right}
use Rattle.fixed_bytes.specs.Numbers.{big_endian, value}
use Rattle.fixed_bytes.specs.Zeros.{zeros}
use Rattle.fixed_bytes.proofs.Numbers.{value_rest}
use Rattle.fixed_bytes.proofs.Sameness.{same_refl}
use Rattle.hashes.specs.Hmac.{hmac_sha256}
use Rattle.sha256.specs.Sha256.{sha256, state_bytes}
use Rattle.primitives.specs.Group.{half, Commutes, OneStays, Sized}
use Rattle.primitives.specs.Signatures.{SignedVerifies, Sizes}
use Rattle.stand_in.specs.StandIn.{number, element, stand_in_group, stand_in_signatures, signature_of}

-- a factor may be taken modulo first
times_rest : (a b m : ℕ) → a * (b % m) % m ≡ a * b % m
times_rest a b m =
    sym (mul-add-mod_self_right (a * (b / m)) m (a * (b % m)))
    ∙ ap (λ z. z % m) (ap (λ z. z + a * (b % m)) (mul_assoc a (b / m) m) ∙ sym (mul-add a (b / m * m) (b % m)) ∙ ap (λ z. a * z) (div-add-mod' b m))

number_element : (n : ℕ) → number (element n) ≡ n % 2 ^ 64
unfolding zeros
number_element n = ap value (drop_at (zeros 24) (big_endian 8 n) 24 refl) ∙ value_rest 8 n

-- a number times a product
twice : (x y e : ℕ) → x * number (element (y * e % 2 ^ 64)) % 2 ^ 64 ≡ x * (y * e) % 2 ^ 64
twice x y e = ap (λ z. x * z % 2 ^ 64) (number_element (y * e % 2 ^ 64) ∙ mod-mod (y * e) (2 ^ 64)) ∙ times_rest x (y * e) (2 ^ 64)

pub commutes : Commutes stand_in_group
commutes x y e = ap element (twice (number x) (number y) (number e) ∙ ap (λ z. z % 2 ^ 64) (mul_left_comm (number x) (number y) (number e)) ∙ sym (twice (number y) (number x) (number e)))

pub one_stays : OneStays stand_in_group
unfolding zeros
one_stays x = ap (λ z. element (z % 2 ^ 64)) (mul-zero (number x))

pub sized : Sized stand_in_group
unfolding zeros
sized x e = refl

pub signed_verifies : SignedVerifies stand_in_signatures
signed_verifies k m = same_refl (signature_of (half stand_in_group k) m)

pub sizes : Sizes stand_in_signatures
unfolding zeros hmac_sha256 sha256 state_bytes
sizes = ((λ k. refl), λ k m. refl)

-- the last eight of 32 bytes
pub last_eight : (bs last : List ℕ) → length bs ≡ 32 → last ≡ drop (length bs - 8) bs → (length last ≡ 8) × (last ≡ drop 24 bs)
last_eight bs last long e =
    let from : length bs - 8 ≡ 24 = omega arith in
    let is : last ≡ drop 24 bs = e ∙ ap (λ n. drop n bs) from in
    (ap length is ∙ length-drop 24 bs ∙ omega arith, is)
