-- Squares: a syndrome at twice the number is the square of the syndrome, so the odd ones decide. Assumes nothing.
use Rattle.std.proofs.Common.{◌≡◌, ℕ, zero, suc, ◌+◌, ◌*◌, ◌/◌, ◌%◌, ◌≤◌, Bool, true, false, ◌⊎◌, List, [], ◌∷◌, sym, ap, ◌∙◌, ap₂, inl, inr, mul-add, arith}
use Rattle.galois.specs.Field.{Field, Laws, Element}
use Rattle.galois.specs.Words.{held, sum_from, syndrome}
use Rattle.galois.proofs.Additive.{bit_lt, bit_cases}
use Rattle.galois.proofs.Powers.{zero_element, times_zero, plus_zero_r, power_add}
use Rattle.galois.proofs.Sums.{held_element, sum_element, plus_swap}

module _ {F : Field} (L : Laws F) where
  -- the square of a sum is the sum of the squares
  pub square_plus : (a b : ℕ) → Element F a → Element F b → F.times (F.plus a b) (F.plus a b) ≡ F.plus (F.times a a) (F.times b b)
  square_plus a b la lb =
      let s = L.plus_closed a b la lb in
      let aa = L.times_closed a a la la in
      let ab = L.times_closed a b la lb in
      let bb = L.times_closed b b lb lb in
      let by_a = L.times_comm (F.plus a b) a s la ∙ L.distributes a a b la la lb in
      let by_b = L.times_comm (F.plus a b) b s lb ∙ L.distributes b a b lb la lb ∙ ap (λ x. F.plus x (F.times b b)) (L.times_comm b a lb la) ∙ L.plus_comm (F.times a b) (F.times b b) ab bb in
      L.distributes (F.plus a b) a b s la lb
      ∙ ap₂ F.plus by_a by_b
      ∙ plus_swap L (F.times a a) (F.times a b) (F.times b b) (F.times a b) aa ab bb ab
      ∙ ap (F.plus (F.plus (F.times a a) (F.times b b))) (L.plus_self (F.times a b) ab)
      ∙ plus_zero_r L _ (L.plus_closed (F.times a a) (F.times b b) aa bb)

  held_square : (b : Bool) (i j : ℕ) → held F b (i * (j + j)) ≡ F.times (held F b (i * j)) (held F b (i * j))
  held_square true i j = ap F.power (mul-add i j j) ∙ power_add L (i * j) (i * j)
  held_square false i j = sym (times_zero L 0 (zero_element L))

  sum_square : (j i : ℕ) (w : List Bool) → sum_from F (j + j) i w ≡ F.times (sum_from F j i w) (sum_from F j i w)
  sum_square j i [] = sym (times_zero L 0 (zero_element L))
  sum_square j i (b ∷ w) =
      ap₂ F.plus (held_square b i j) (sum_square j (suc i) w)
      ∙ sym (square_plus (held F b (i * j)) (sum_from F j (suc i) w) (held_element L b (i * j)) (sum_element L j (suc i) w))

  pub syndrome_square : (j : ℕ) (w : List Bool) → syndrome F (j + j) w ≡ F.times (syndrome F j w) (syndrome F j w)
  syndrome_square j w = sum_square j 0 w

  -- where the odd syndromes up to a last one vanish, every one up to it does
  pub odd_vanish : (last : ℕ) (w : List Bool) → ((i : ℕ) → suc (i + i) ≤ last → syndrome F (suc (i + i)) w ≡ 0) → (j : ℕ) → 1 ≤ j → j ≤ last → syndrome F j w ≡ 0
  odd_vanish last w odd j h l = go j j (omega arith) h l
    where
      go : (n j : ℕ) → j ≤ n → 1 ≤ j → j ≤ last → syndrome F j w ≡ 0
      go zero j m h l = absurd (omega arith)
      go (suc n) j m h l = halve (bit_cases (j % 2) (bit_lt j)) (go n (j / 2))
        where
          halve : (j % 2 ≡ 0) ⊎ (j % 2 ≡ 1) → (j / 2 ≤ n → 1 ≤ j / 2 → j / 2 ≤ last → syndrome F (j / 2) w ≡ 0) → syndrome F j w ≡ 0
          halve (inl even) half =
              let is : j ≡ j / 2 + j / 2 = omega arith in
              let none = half (omega arith) (omega arith) (omega arith) in
              ap (λ k. syndrome F k w) is ∙ syndrome_square (j / 2) w ∙ ap₂ F.times none none ∙ times_zero L 0 (zero_element L)
          halve (inr uneven) half =
              let is : j ≡ suc (j / 2 + j / 2) = omega arith in
              ap (λ k. syndrome F k w) is ∙ odd (j / 2) (omega arith)
