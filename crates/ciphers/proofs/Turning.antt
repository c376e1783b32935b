-- Turning back. Assumes nothing.
use Rattle.std.proofs.Common.{◌≡◌, ℕ, ◌<◌, length, get_or, sym, ap, ◌∙◌, arith, ext_get_or}
use lib.Bits.{bit_xor, xor_assoc, xor_self, xor_zero_r}
use Rattle.ciphers.specs.ChaCha20.{stream_byte, TurnedTwiceUnchanged, TurnedApart}

xor_back : (x y : ℕ) → bit_xor (bit_xor x y) y ≡ x
xor_back x y = xor_assoc x y y ∙ ap (bit_xor x) (xor_self y) ∙ xor_zero_r x

pub turned_twice : TurnedTwiceUnchanged
turned_twice key counter nonce a b c T U =
    ext_get_or 0 c a (U.len ∙ T.len)
    (λ p h. let m = T.len in let n = U.len in let inside : p < length a = omega arith in let within : p < length b = omega arith in U.each p within ∙ ap (λ x. bit_xor x (stream_byte key counter nonce p)) (T.each p inside) ∙ xor_back (get_or a p 0) (stream_byte key counter nonce p))

-- turned back, both are the same
pub turned_apart : TurnedApart
turned_apart key counter nonce a b c T U =
    ext_get_or 0 a b (sym T.len ∙ U.len)
    (λ p h. let m = T.len in let n = U.len in let within : p < length b = omega arith in sym (xor_back (get_or a p 0) (stream_byte key counter nonce p)) ∙ ap (λ x. bit_xor x (stream_byte key counter nonce p)) (sym (T.each p h) ∙ U.each p within) ∙ xor_back (get_or b p 0) (stream_byte key counter nonce p))
