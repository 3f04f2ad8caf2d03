-- The two tables, computed, and what each entry is. Assumes nothing.
use Rattle.std.proofs.Common.{◌≡◌, ℕ, zero, suc, ◌+◌, ◌%◌, ◌<◌, List, [], ◌∷◌, get_or, sym, refl, ap, ◌∙◌, ap₂, add-zero, add-suc, suc-add, zero-add, arith}
use Rattle.galois.specs.Field.{Laws, nonzeros}
use Rattle.galois.proofs.Powers.{power_mod, power_add, times_zero, zero_times}
use Rattle.galois.proofs.Primitive.{orbit, position, get_or_orbit, binary_laws, reaches_at}
use Rattle.field.specs.Bytes.{bytes}

pub bytes_laws : Laws bytes
unfolding bytes
bytes_laws = binary_laws 8 0x11D refl

-- the powers of α, by doubling
abbrev pub powers : List ℕ
powers = orbit 8 0x11D 255 1

-- where k numbers from a on stand among the powers
abbrev pub logarithms : ℕ → ℕ → List ℕ
logarithms zero a = []
logarithms (suc k) a = position a powers ∷ logarithms k (suc a)

get_or_logarithms : (k a i : ℕ) → i < k → get_or (logarithms k a) i 0 ≡ position (a + i) powers
get_or_logarithms zero a i h = absurd (omega arith)
get_or_logarithms (suc k) a zero h = ap (λ z. position z powers) (sym (add-zero a))
get_or_logarithms (suc k) a (suc i) h = get_or_logarithms k (suc a) i (omega arith) ∙ ap (λ z. position z powers) (suc-add a i ∙ sym (add-suc a i))

pub power_entry : (k : ℕ) → get_or powers (k % 255) 0 ≡ bytes.power k
unfolding bytes
power_entry k = get_or_orbit 8 0x11D 255 0 (k % 255) (omega arith) ∙ ap bytes.power (zero-add (k % 255)) ∙ power_mod bytes_laws k

pub logarithm_entry : (a : ℕ) → 0 < a → a < 256 → let i = get_or (0 ∷ logarithms 255 1) a 0 in (i < nonzeros bytes) × (bytes.power i ≡ a)
unfolding bytes
logarithm_entry zero h l = absurd (omega arith)
logarithm_entry (suc a) h l =
    let at : get_or (logarithms 255 1) a 0 ≡ position (suc a) powers = get_or_logarithms 255 1 a (omega arith) ∙ ap (λ z. position z powers) (omega arith) in
    rw at (reaches_at 8 0x11D refl (suc a) h l)

pub zero_left : (a b : ℕ) → b < 256 → a ≡ 0 → 0 ≡ bytes.times a b
unfolding bytes
zero_left a b l e = sym (ap (λ z. bytes.times z b) e ∙ zero_times bytes_laws b l)

pub zero_right : (a b : ℕ) → a < 256 → b ≡ 0 → 0 ≡ bytes.times a b
unfolding bytes
zero_right a b l e = sym (ap (bytes.times a) e ∙ times_zero bytes_laws a l)

-- the product by logarithms
pub by_logarithms : (a b i j : ℕ) → bytes.power i ≡ a → bytes.power j ≡ b → bytes.power (i + j) ≡ bytes.times a b
by_logarithms a b i j e f = power_add bytes_laws i j ∙ ap₂ bytes.times e f
