-- What equal terms say of their parts. Assumes nothing.
use Rattle.std.proofs.Common.{◌≡◌, ℕ, List, [], ◌∷◌, arith}
use Rattle.words.specs.Registry.{derive_lock}
use Rattle.symbolic.specs.Key.{Key, key, own, made}
use Rattle.symbolic.specs.Term.{Term, Number, Fresh, Secret, Element, Mac, Close, Both}
use Rattle.protocol.specs.Words.{Reply}
use Rattle.protocol.specs.Symbols.{reply_term, nothing, Variant}
use Rattle.protocol.proofs.Apart.{reply_same}
use Rattle.promise.proofs.Released.{lock_of, sealing_key, half_of}

pub fresh_time : (t u i j : ℕ) → Fresh t i ≡ Fresh u j → t ≡ u
fresh_time t u i j e = cc

pub fresh_index : (t u i j : ℕ) → Fresh t i ≡ Fresh u j → i ≡ j
fresh_index t u i j e = cc

pub half_key : (k l : Key) → half_of k ≡ half_of l → k ≡ l
half_key k l e = cc

pub half_keys : (k : Key) (ks : List Key) → half_of k ≡ Element ks → ks ≡ k ∷ []
half_keys k ks e = cc

pub own_side : (a b : ℕ) → own a 0 ≡ own b 0 → a ≡ b
own_side a b e = cc

pub made_time : (t u i j : ℕ) → made t i ≡ made u j → t ≡ u
made_time t u i j e = cc

pub sealed_half : (x y : Key) (e f a b c d s t : Term) → Close (sealing_key x e a b) 0 nothing s ≡ Close (sealing_key y f c d) 0 nothing t → a ≡ c
sealed_half x y e f a b c d s t p = cc

-- a lock is no seal
pub lock_seal : (v : Variant) (me : ℕ) (s : Term) (r : Reply Term) (x : Key) (e a b t : Term) → lock_of v me s r ≡ Close (sealing_key x e a b) 0 nothing t → ⊥
lock_seal v me s r x e a b t p = let z : Number 1 derive_lock ≡ Both a b = cc in apart z
  where
    apart : Number 1 derive_lock ≡ Both a b → ⊥
    apart q = let z : ◌≡◌ {A = ℕ} 0 1 = cc in omega arith

pub lock_reply : (v : Variant) (me you : ℕ) (s t : Term) (r q : Reply Term) → lock_of v me s r ≡ lock_of v you t q → r ≡ q
lock_reply v me you s t r q e = let z : reply_term r ≡ reply_term q = cc in reply_same r q z

pub lock_side : (v : Variant) (me you : ℕ) (s t : Term) (r q : Reply Term) → lock_of v me s r ≡ lock_of v you t q → me ≡ you
lock_side v me you s t r q e = let z : own me 0 ≡ own you 0 = cc in own_side me you z

-- keys that are told apart by their kind or their index
pub key_kind : (a b c x y z : ℕ) → key a b c ≡ key x y z → a ≡ x
key_kind a b c x y z e = cc

pub key_index : (a b c x y z : ℕ) → key a b c ≡ key x y z → c ≡ z
key_index a b c x y z e = cc

pub secret_key : (k l : Key) → Secret k ≡ Secret l → k ≡ l
secret_key k l e = cc

pub close_key : (k l h g m c : Term) (n o : ℕ) → Close k n h m ≡ Close l o g c → k ≡ l
close_key k l h g m c n o e = cc

pub close_content : (k l h g m c : Term) (n o : ℕ) → Close k n h m ≡ Close l o g c → m ≡ c
close_content k l h g m c n o e = cc

pub mac_content : (x y a b : Term) → Mac x a ≡ Mac y b → a ≡ b
mac_content x y a b e = cc

pub pair_number : (a b : Term) (w n : ℕ) → Both a b ≡ Number w n → ⊥
pair_number a b w n e = let z : ◌≡◌ {A = ℕ} 0 1 = cc in omega arith
