-- A list cut into chunks, by `as_chunks`. Assumes nothing.
use Rattle.std.proofs.Common.{◌≡◌, ℕ, zero, suc, ◌+◌, ◌-◌, ◌*◌, ◌<◌, ◌≤◌, List, [], get_or, take, drop, sym, ap, ◌∙◌, mul-zero, mul-suc, arith}
use Rattle.std.proofs.lemmas.List.{drop-drop, drop-take, take-take}
use Rattle.std.specs.Simd.{first_chunks}

-- chunk i of k, each of n elements
pub chunk_at : {X : Type 0} (n k i : ℕ) (xs : List X) → i < k → get_or (first_chunks n k xs) i [] ≡ take n (drop (n * i) xs)
chunk_at n zero i xs h = absurd (omega arith)
chunk_at n (suc k) zero xs h = ap (λ j. take n (drop j xs)) (sym (mul-zero n))
chunk_at n (suc k) (suc i) xs h =
    let next : n + n * i ≡ n * suc i = omega (arith, mul-suc n i) in
    chunk_at n k i (drop n xs) (omega arith) ∙ ap (take n) (drop-drop (n * i) n xs ∙ ap (λ j. drop j xs) next)

-- n elements of a part are n elements of the whole
pub part_of : {X : Type 0} (n at from count : ℕ) (xs : List X) → at + n ≤ count → take n (drop at (take count (drop from xs))) ≡ take n (drop (from + at) xs)
part_of n at from count xs h =
    let whole : count ≡ at + (count - at) = omega arith in
    ap (λ m. take n (drop at (take m (drop from xs)))) whole ∙ ap (take n) (drop-take at (count - at) (drop from xs))
    ∙ take-take n (count - at) (drop at (drop from xs)) (omega arith) ∙ ap (take n) (drop-drop at from xs)
