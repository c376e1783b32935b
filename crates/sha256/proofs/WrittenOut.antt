-- Sixteen rounds written out one by one are the rounds of the definition. Assumes nothing.
use Rattle.std.proofs.Common.{◌≡◌, ℕ, ◌+◌, ◌≤◌, List, [], ◌∷◌, length, get_or, take, drop, sym, refl, ap, ◌∙◌, add-zero, arith, length-drop}
use Rattle.std.proofs.lemmas.List.{get_or-take, get_or-drop, length-take-le}
use Rattle.std.proofs.lemmas.List.FromFn.{fill_by_all}
use Rattle.sha256.specs.declared.state.State.{State}
use Rattle.sha256.specs.Sha256.{next_word, slid, slid_by, sums, round, rounds, constants}
use Rattle.sha256.specs.Words.{plus}

-- a list of sixteen, element by element
pub spelled : (xs : List ℕ) → length xs ≡ 16 → xs ≡ get_or xs 0 0 ∷ get_or xs 1 0 ∷ get_or xs 2 0 ∷ get_or xs 3 0 ∷ get_or xs 4 0 ∷ get_or xs 5 0 ∷ get_or xs 6 0 ∷ get_or xs 7 0 ∷ get_or xs 8 0 ∷ get_or xs 9 0 ∷ get_or xs 10 0 ∷ get_or xs 11 0 ∷ get_or xs 12 0 ∷ get_or xs 13 0 ∷ get_or xs 14 0 ∷ get_or xs 15 0 ∷ []
spelled xs h = fill_by_all (λ i. get_or xs i 0) xs 16 0 h (λ i l. refl)

-- the next sixteen words, each from those before it
following : (w0 w1 w2 w3 w4 w5 w6 w7 w8 w9 w10 w11 w12 w13 w14 w15 n0 n1 n2 n3 n4 n5 n6 n7 n8 n9 n10 n11 n12 n13 n14 n15 : ℕ)
    → n0 ≡ next_word w0 w1 w9 w14
    → n1 ≡ next_word w1 w2 w10 w15
    → n2 ≡ next_word w2 w3 w11 n0
    → n3 ≡ next_word w3 w4 w12 n1
    → n4 ≡ next_word w4 w5 w13 n2
    → n5 ≡ next_word w5 w6 w14 n3
    → n6 ≡ next_word w6 w7 w15 n4
    → n7 ≡ next_word w7 w8 n0 n5
    → n8 ≡ next_word w8 w9 n1 n6
    → n9 ≡ next_word w9 w10 n2 n7
    → n10 ≡ next_word w10 w11 n3 n8
    → n11 ≡ next_word w11 w12 n4 n9
    → n12 ≡ next_word w12 w13 n5 n10
    → n13 ≡ next_word w13 w14 n6 n11
    → n14 ≡ next_word w14 w15 n7 n12
    → n15 ≡ next_word w15 n0 n8 n13
    → n0 ∷ n1 ∷ n2 ∷ n3 ∷ n4 ∷ n5 ∷ n6 ∷ n7 ∷ n8 ∷ n9 ∷ n10 ∷ n11 ∷ n12 ∷ n13 ∷ n14 ∷ n15 ∷ [] ≡ slid_by 16 (w0 ∷ w1 ∷ w2 ∷ w3 ∷ w4 ∷ w5 ∷ w6 ∷ w7 ∷ w8 ∷ w9 ∷ w10 ∷ w11 ∷ w12 ∷ w13 ∷ w14 ∷ w15 ∷ [])
unfolding slid_by slid
following w0 w1 w2 w3 w4 w5 w6 w7 w8 w9 w10 w11 w12 w13 w14 w15 n0 n1 n2 n3 n4 n5 n6 n7 n8 n9 n10 n11 n12 n13 n14 n15 e0 e1 e2 e3 e4 e5 e6 e7 e8 e9 e10 e11 e12 e13 e14 e15 = cc

-- sixteen rounds, each from the state before it
sixteen : (s0 s1 s2 s3 s4 s5 s6 s7 s8 s9 s10 s11 s12 s13 s14 s15 s16 : State) (k0 k1 k2 k3 k4 k5 k6 k7 k8 k9 k10 k11 k12 k13 k14 k15 n0 n1 n2 n3 n4 n5 n6 n7 n8 n9 n10 n11 n12 n13 n14 n15 : ℕ)
    → s1 ≡ round s0 (plus k0 n0)
    → s2 ≡ round s1 (plus k1 n1)
    → s3 ≡ round s2 (plus k2 n2)
    → s4 ≡ round s3 (plus k3 n3)
    → s5 ≡ round s4 (plus k4 n4)
    → s6 ≡ round s5 (plus k5 n5)
    → s7 ≡ round s6 (plus k6 n6)
    → s8 ≡ round s7 (plus k7 n7)
    → s9 ≡ round s8 (plus k8 n8)
    → s10 ≡ round s9 (plus k9 n9)
    → s11 ≡ round s10 (plus k10 n10)
    → s12 ≡ round s11 (plus k11 n11)
    → s13 ≡ round s12 (plus k12 n12)
    → s14 ≡ round s13 (plus k13 n13)
    → s15 ≡ round s14 (plus k14 n14)
    → s16 ≡ round s15 (plus k15 n15)
    → s16 ≡ rounds s0 (sums (k0 ∷ k1 ∷ k2 ∷ k3 ∷ k4 ∷ k5 ∷ k6 ∷ k7 ∷ k8 ∷ k9 ∷ k10 ∷ k11 ∷ k12 ∷ k13 ∷ k14 ∷ k15 ∷ []) (n0 ∷ n1 ∷ n2 ∷ n3 ∷ n4 ∷ n5 ∷ n6 ∷ n7 ∷ n8 ∷ n9 ∷ n10 ∷ n11 ∷ n12 ∷ n13 ∷ n14 ∷ n15 ∷ []))
unfolding rounds sums
sixteen s0 s1 s2 s3 s4 s5 s6 s7 s8 s9 s10 s11 s12 s13 s14 s15 s16 k0 k1 k2 k3 k4 k5 k6 k7 k8 k9 k10 k11 k12 k13 k14 k15 n0 n1 n2 n3 n4 n5 n6 n7 n8 n9 n10 n11 n12 n13 n14 n15 e0 e1 e2 e3 e4 e5 e6 e7 e8 e9 e10 e11 e12 e13 e14 e15 = cc

-- eight rounds by the places of two lists
pub eight_rounds : (ks ws : List ℕ) → length ks ≡ 8 → length ws ≡ 8 → (s0 s1 s2 s3 s4 s5 s6 s7 s8 : State)
    → s1 ≡ round s0 (plus (get_or ks 0 0) (get_or ws 0 0))
    → s2 ≡ round s1 (plus (get_or ks 1 0) (get_or ws 1 0))
    → s3 ≡ round s2 (plus (get_or ks 2 0) (get_or ws 2 0))
    → s4 ≡ round s3 (plus (get_or ks 3 0) (get_or ws 3 0))
    → s5 ≡ round s4 (plus (get_or ks 4 0) (get_or ws 4 0))
    → s6 ≡ round s5 (plus (get_or ks 5 0) (get_or ws 5 0))
    → s7 ≡ round s6 (plus (get_or ks 6 0) (get_or ws 6 0))
    → s8 ≡ round s7 (plus (get_or ks 7 0) (get_or ws 7 0))
    → s8 ≡ rounds s0 (sums ks ws)
unfolding rounds sums
eight_rounds ks ws hk hw s0 s1 s2 s3 s4 s5 s6 s7 s8 e0 e1 e2 e3 e4 e5 e6 e7 =
    let spelled_ks : ks ≡ get_or ks 0 0 ∷ get_or ks 1 0 ∷ get_or ks 2 0 ∷ get_or ks 3 0 ∷ get_or ks 4 0 ∷ get_or ks 5 0 ∷ get_or ks 6 0 ∷ get_or ks 7 0 ∷ [] = fill_by_all (λ i. get_or ks i 0) ks 8 0 hk (λ i l. refl) in
    let spelled_ws : ws ≡ get_or ws 0 0 ∷ get_or ws 1 0 ∷ get_or ws 2 0 ∷ get_or ws 3 0 ∷ get_or ws 4 0 ∷ get_or ws 5 0 ∷ get_or ws 6 0 ∷ get_or ws 7 0 ∷ [] = fill_by_all (λ i. get_or ws i 0) ws 8 0 hw (λ i l. refl) in
    let made : s8 ≡ rounds s0 (sums (get_or ks 0 0 ∷ get_or ks 1 0 ∷ get_or ks 2 0 ∷ get_or ks 3 0 ∷ get_or ks 4 0 ∷ get_or ks 5 0 ∷ get_or ks 6 0 ∷ get_or ks 7 0 ∷ []) (get_or ws 0 0 ∷ get_or ws 1 0 ∷ get_or ws 2 0 ∷ get_or ws 3 0 ∷ get_or ws 4 0 ∷ get_or ws 5 0 ∷ get_or ws 6 0 ∷ get_or ws 7 0 ∷ [])) = cc in
    made ∙ ap (λ xs. rounds s0 (sums xs (get_or ws 0 0 ∷ get_or ws 1 0 ∷ get_or ws 2 0 ∷ get_or ws 3 0 ∷ get_or ws 4 0 ∷ get_or ws 5 0 ∷ get_or ws 6 0 ∷ get_or ws 7 0 ∷ []))) (sym spelled_ks) ∙ ap (λ xs. rounds s0 (sums ks xs)) (sym spelled_ws)

-- sixteen constants from a place on, one by one
quarter : (from : ℕ) → from ≤ 48 → take 16 (drop from constants) ≡ get_or constants from 0 ∷ get_or constants (from + 1) 0 ∷ get_or constants (from + 2) 0 ∷ get_or constants (from + 3) 0 ∷ get_or constants (from + 4) 0 ∷ get_or constants (from + 5) 0 ∷ get_or constants (from + 6) 0 ∷ get_or constants (from + 7) 0 ∷ get_or constants (from + 8) 0 ∷ get_or constants (from + 9) 0 ∷ get_or constants (from + 10) 0 ∷ get_or constants (from + 11) 0 ∷ get_or constants (from + 12) 0 ∷ get_or constants (from + 13) 0 ∷ get_or constants (from + 14) 0 ∷ get_or constants (from + 15) 0 ∷ []
unfolding constants
quarter from h =
    fill_by_all (λ i. get_or constants (from + i) 0) (take 16 (drop from constants)) 16 0
    (length-take-le 16 (drop from constants) (omega (arith, length-drop from constants)))
    (λ i l. get_or-take 16 (drop from constants) i 0 l ∙ get_or-drop from constants i 0)
    ∙ ap (λ k. get_or constants k 0 ∷ get_or constants (from + 1) 0 ∷ get_or constants (from + 2) 0 ∷ get_or constants (from + 3) 0 ∷ get_or constants (from + 4) 0 ∷ get_or constants (from + 5) 0 ∷ get_or constants (from + 6) 0 ∷ get_or constants (from + 7) 0 ∷ get_or constants (from + 8) 0 ∷ get_or constants (from + 9) 0 ∷ get_or constants (from + 10) 0 ∷ get_or constants (from + 11) 0 ∷ get_or constants (from + 12) 0 ∷ get_or constants (from + 13) 0 ∷ get_or constants (from + 14) 0 ∷ get_or constants (from + 15) 0 ∷ []) (add-zero from)

-- sixteen rounds by the constants from a place on, and by the words that follow sixteen
pub later_rounds : (from : ℕ) → from ≤ 48 → (ws : List ℕ) → length ws ≡ 16 → (n0 n1 n2 n3 n4 n5 n6 n7 n8 n9 n10 n11 n12 n13 n14 n15 : ℕ) → (s0 s1 s2 s3 s4 s5 s6 s7 s8 s9 s10 s11 s12 s13 s14 s15 s16 : State)
    → n0 ≡ next_word (get_or ws 0 0) (get_or ws 1 0) (get_or ws 9 0) (get_or ws 14 0)
    → n1 ≡ next_word (get_or ws 1 0) (get_or ws 2 0) (get_or ws 10 0) (get_or ws 15 0)
    → n2 ≡ next_word (get_or ws 2 0) (get_or ws 3 0) (get_or ws 11 0) n0
    → n3 ≡ next_word (get_or ws 3 0) (get_or ws 4 0) (get_or ws 12 0) n1
    → n4 ≡ next_word (get_or ws 4 0) (get_or ws 5 0) (get_or ws 13 0) n2
    → n5 ≡ next_word (get_or ws 5 0) (get_or ws 6 0) (get_or ws 14 0) n3
    → n6 ≡ next_word (get_or ws 6 0) (get_or ws 7 0) (get_or ws 15 0) n4
    → n7 ≡ next_word (get_or ws 7 0) (get_or ws 8 0) n0 n5
    → n8 ≡ next_word (get_or ws 8 0) (get_or ws 9 0) n1 n6
    → n9 ≡ next_word (get_or ws 9 0) (get_or ws 10 0) n2 n7
    → n10 ≡ next_word (get_or ws 10 0) (get_or ws 11 0) n3 n8
    → n11 ≡ next_word (get_or ws 11 0) (get_or ws 12 0) n4 n9
    → n12 ≡ next_word (get_or ws 12 0) (get_or ws 13 0) n5 n10
    → n13 ≡ next_word (get_or ws 13 0) (get_or ws 14 0) n6 n11
    → n14 ≡ next_word (get_or ws 14 0) (get_or ws 15 0) n7 n12
    → n15 ≡ next_word (get_or ws 15 0) n0 n8 n13
    → s1 ≡ round s0 (plus (get_or constants from 0) n0)
    → s2 ≡ round s1 (plus (get_or constants (from + 1) 0) n1)
    → s3 ≡ round s2 (plus (get_or constants (from + 2) 0) n2)
    → s4 ≡ round s3 (plus (get_or constants (from + 3) 0) n3)
    → s5 ≡ round s4 (plus (get_or constants (from + 4) 0) n4)
    → s6 ≡ round s5 (plus (get_or constants (from + 5) 0) n5)
    → s7 ≡ round s6 (plus (get_or constants (from + 6) 0) n6)
    → s8 ≡ round s7 (plus (get_or constants (from + 7) 0) n7)
    → s9 ≡ round s8 (plus (get_or constants (from + 8) 0) n8)
    → s10 ≡ round s9 (plus (get_or constants (from + 9) 0) n9)
    → s11 ≡ round s10 (plus (get_or constants (from + 10) 0) n10)
    → s12 ≡ round s11 (plus (get_or constants (from + 11) 0) n11)
    → s13 ≡ round s12 (plus (get_or constants (from + 12) 0) n12)
    → s14 ≡ round s13 (plus (get_or constants (from + 13) 0) n13)
    → s15 ≡ round s14 (plus (get_or constants (from + 14) 0) n14)
    → s16 ≡ round s15 (plus (get_or constants (from + 15) 0) n15)
    → (s16 ≡ rounds s0 (sums (take 16 (drop from constants)) (slid_by 16 ws))) × (n0 ∷ n1 ∷ n2 ∷ n3 ∷ n4 ∷ n5 ∷ n6 ∷ n7 ∷ n8 ∷ n9 ∷ n10 ∷ n11 ∷ n12 ∷ n13 ∷ n14 ∷ n15 ∷ [] ≡ slid_by 16 ws)
later_rounds from h ws long n0 n1 n2 n3 n4 n5 n6 n7 n8 n9 n10 n11 n12 n13 n14 n15 s0 s1 s2 s3 s4 s5 s6 s7 s8 s9 s10 s11 s12 s13 s14 s15 s16 e0 e1 e2 e3 e4 e5 e6 e7 e8 e9 e10 e11 e12 e13 e14 e15 f0 f1 f2 f3 f4 f5 f6 f7 f8 f9 f10 f11 f12 f13 f14 f15 =
    let words : n0 ∷ n1 ∷ n2 ∷ n3 ∷ n4 ∷ n5 ∷ n6 ∷ n7 ∷ n8 ∷ n9 ∷ n10 ∷ n11 ∷ n12 ∷ n13 ∷ n14 ∷ n15 ∷ [] ≡ slid_by 16 ws = following _ _ _ _ _ _ _ _ _ _ _ _ _ _ _ _ n0 n1 n2 n3 n4 n5 n6 n7 n8 n9 n10 n11 n12 n13 n14 n15 e0 e1 e2 e3 e4 e5 e6 e7 e8 e9 e10 e11 e12 e13 e14 e15 ∙ ap (slid_by 16) (sym (spelled ws long)) in
    let made = sixteen s0 s1 s2 s3 s4 s5 s6 s7 s8 s9 s10 s11 s12 s13 s14 s15 s16 _ _ _ _ _ _ _ _ _ _ _ _ _ _ _ _ n0 n1 n2 n3 n4 n5 n6 n7 n8 n9 n10 n11 n12 n13 n14 n15 f0 f1 f2 f3 f4 f5 f6 f7 f8 f9 f10 f11 f12 f13 f14 f15 in
    (made ∙ ap (λ ks. rounds s0 (sums ks (n0 ∷ n1 ∷ n2 ∷ n3 ∷ n4 ∷ n5 ∷ n6 ∷ n7 ∷ n8 ∷ n9 ∷ n10 ∷ n11 ∷ n12 ∷ n13 ∷ n14 ∷ n15 ∷ []))) (sym (quarter from h)) ∙ ap (λ ns. rounds s0 (sums (take 16 (drop from constants)) ns)) words, words)
