-- What the laws of a field give of its powers, and of zero. Assumes nothing.
use Rattle.std.proofs.Common.{◌≡◌, ℕ, zero, suc, ◌+◌, ◌*◌, ◌/◌, ◌%◌, sym, ap, ◌∙◌, suc-mul, suc-add, zero-add, zero-mul, arith}
use Rattle.std.proofs.lemmas.Nat.{div-add-mod'}
use Rattle.galois.specs.Field.{Field, Laws, nonzeros, Element}

module _ {F : Field} (L : Laws F) where
  pub zero_element : Element F 0
  zero_element = omega (arith, L.zero_one)

  pub times_zero : (a : ℕ) → Element F a → F.times a 0 ≡ 0
  times_zero a l =
      let z = zero_element in
      let t = L.times_closed a 0 l z in
      ap (F.times a) (sym (L.plus_zero 0 z)) ∙ L.distributes a 0 0 l z z ∙ L.plus_self (F.times a 0) t

  pub zero_times : (a : ℕ) → Element F a → F.times 0 a ≡ 0
  zero_times a l = L.times_comm 0 a zero_element l ∙ times_zero a l

  pub plus_zero_r : (a : ℕ) → Element F a → F.plus a 0 ≡ a
  plus_zero_r a l = L.plus_comm a 0 l zero_element ∙ L.plus_zero a l

  pub power_add : (i j : ℕ) → F.power (i + j) ≡ F.times (F.power i) (F.power j)
  power_add zero j = ap F.power (zero-add j) ∙ sym (ap (λ a. F.times a (F.power j)) L.power_first ∙ L.times_one (F.power j) (L.power_closed j))
  power_add (suc i) j =
      let c = L.power_closed in
      ap F.power (suc-add i j) ∙ L.power_next (i + j) ∙ ap (F.times (F.power 1)) (power_add i j)
      ∙ sym (L.times_assoc (F.power 1) (F.power i) (F.power j) (c 1) (c i) (c j))
      ∙ ap (λ a. F.times a (F.power j)) (sym (L.power_next i))

  -- the powers repeat after as many as there are elements but zero
  pub power_cycles : (m r : ℕ) → F.power (m * nonzeros F + r) ≡ F.power r
  power_cycles zero r = ap F.power (ap (λ k. k + r) (zero-mul (nonzeros F)) ∙ zero-add r)
  power_cycles (suc m) r =
      let turn : suc m * nonzeros F + r ≡ nonzeros F + (m * nonzeros F + r) = omega (arith, suc-mul m (nonzeros F)) in
      ap F.power turn ∙ power_add (nonzeros F) (m * nonzeros F + r)
      ∙ ap (λ a. F.times a (F.power (m * nonzeros F + r))) L.power_repeats
      ∙ L.times_one _ (L.power_closed (m * nonzeros F + r))
      ∙ power_cycles m r

  pub power_mod : (k : ℕ) → F.power (k % nonzeros F) ≡ F.power k
  power_mod k = sym (power_cycles (k / nonzeros F) (k % nonzeros F)) ∙ ap F.power (div-add-mod' k (nonzeros F))
