-- What insertion keeps. Assumes nothing.
use Rattle.std.proofs.Common.{◌≡◌, ℕ, zero, suc, ◌<◌, Bool, true, false, cond, List, [], ◌∷◌, ◌++◌, map, length, get_or, take, refl, ap, arith}
use Rattle.std.proofs.lemmas.Grind.{common_steps}
use Rattle.std.specs.List.{Contains, AllByRecursion}
use Rattle.std.proofs.ByRecursion.{All-take, All-weaker, All-get_or}
use Rattle.order.specs.Order.{Pairwise, InOrder, insert}

module _ {E : Type 0} (R : E → E → Type 0) where
  pub pairwise_take : (n : ℕ) (l : List E) → Pairwise R l → Pairwise R (take n l)
  pairwise_take zero l o = tt
  pairwise_take (suc n) [] o = tt
  pairwise_take (suc n) (y ∷ l) o = (All-take (R y) n l o.0, pairwise_take n l o.1)

  pub pairwise_at : (l : List E) (i j : ℕ) (d : E) → i < j → j < length l → Pairwise R l → R (get_or l i d) (get_or l j d)
  pairwise_at [] i j d h k o = absurd (omega arith)
  pairwise_at (x ∷ l) i zero d h k o = absurd (omega arith)
  pairwise_at (x ∷ l) zero (suc j) d h k o = All-get_or (R x) l j d (omega arith) o.0
  pairwise_at (x ∷ l) (suc i) (suc j) d h k o = pairwise_at l i j d (omega arith) (omega arith) o.1

first_contained : {E : Type 0} (x : E) (l : List E) → Contains (x ∷ l) x
first_contained x l = (0, omega arith, refl)

next_contained : {E : Type 0} (x y : E) (l : List E) → Contains l x → Contains (y ∷ l) x
next_contained x y l (k, lt, e) = (suc k, omega arith, e)

module _ {E : Type 0} (at_most : E → E → Bool) where
  pub length_insert : (x : E) (l : List E) → length (insert at_most x l) ≡ suc (length l)
  unfolding insert
  length_insert x [] = refl
  length_insert x (y ∷ l) = grind (arith, common_steps, length_insert x l)

  pub all_insert : (P : E → Type 0) (x : E) (l : List E) → P x → AllByRecursion P l → AllByRecursion P (insert at_most x l)
  unfolding insert
  all_insert P x [] h a = (h, tt)
  all_insert P x (z ∷ l) h a = by (at_most z x) (all_insert P x l h a.1)
    where
      by : (t : Bool) → AllByRecursion P (insert at_most x l) → AllByRecursion P (cond t (z ∷ insert at_most x l) (x ∷ z ∷ l))
      by true more = (a.0, more)
      by false more = (h, a)

  -- a relation that holds between x and each element, both ways
  pub pairwise_insert : (R : E → E → Type 0) (x : E) (l : List E) → AllByRecursion (R x) l → AllByRecursion (λ y. R y x) l → Pairwise R l → Pairwise R (insert at_most x l)
  unfolding insert
  pairwise_insert R x [] to from o = (tt, tt)
  pairwise_insert R x (y ∷ l) to from o = by (at_most y x) (pairwise_insert R x l to.1 from.1 o.1)
    where
      by : (t : Bool) → Pairwise R (insert at_most x l) → Pairwise R (cond t (y ∷ insert at_most x l) (x ∷ y ∷ l))
      by true more = (all_insert (R y) x l from.0 o.0, more)
      by false more = (to, o)

  pub has_new : (x : E) (l : List E) → Contains (insert at_most x l) x
  unfolding insert
  has_new x [] = first_contained x []
  has_new x (y ∷ l) = by (at_most y x) (has_new x l)
    where
      by : (t : Bool) → Contains (insert at_most x l) x → Contains (cond t (y ∷ insert at_most x l) (x ∷ y ∷ l)) x
      by true h = next_contained x y (insert at_most x l) h
      by false h = first_contained x (y ∷ l)

  pub has_old : (x : E) (l : List E) (p : E) → Contains l p → Contains (insert at_most x l) p
  unfolding insert
  has_old x [] p (k, lt, e) = absurd (omega arith)
  has_old x (y ∷ l) p (zero, lt, e) = by (at_most y x)
    where
      by : (t : Bool) → Contains (cond t (y ∷ insert at_most x l) (x ∷ y ∷ l)) p
      by true = (0, omega arith, e)
      by false = (1, omega arith, e)
  has_old x (y ∷ l) p (suc k, lt, e) = by (at_most y x) (has_old x l p (k, omega arith, e))
    where
      by : (t : Bool) → Contains (insert at_most x l) p → Contains (cond t (y ∷ insert at_most x l) (x ∷ y ∷ l)) p
      by true h = next_contained p y (insert at_most x l) h
      by false h = (suc (suc k), omega arith, e)

  module _ (transitive : (a b c : E) → at_most a b ≡ true → at_most b c ≡ true → at_most a c ≡ true) where
    all_last : (y z : E) (l : List E) → AllByRecursion (λ w. at_most y w ≡ true) (l ++ z ∷ []) → at_most y z ≡ true
    all_last y z [] a = a.0
    all_last y z (w ∷ l) a = all_last y z l a.1

    -- what the last of a list in order is at most comes behind all of it
    pub insert_behind : (x z : E) (l : List E) → InOrder at_most (l ++ z ∷ []) → at_most z x ≡ true → insert at_most x (l ++ z ∷ []) ≡ l ++ z ∷ x ∷ []
    unfolding insert
    insert_behind x z [] o h = rw h refl
    insert_behind x z (y ∷ l) o h = let e : at_most y x ≡ true = transitive y z x (all_last y z l o.0) h in rw e (ap (λ k. y ∷ k) (insert_behind x z l o.1 h))

    module _ (total : (a b : E) → at_most a b ≡ false → at_most b a ≡ true) where
      pub in_order_insert : (x : E) (l : List E) → InOrder at_most l → InOrder at_most (insert at_most x l)
      unfolding insert
      in_order_insert x [] o = (tt, tt)
      in_order_insert x (y ∷ l) o = by (at_most y x) refl (in_order_insert x l o.1)
        where
          by : (t : Bool) → at_most y x ≡ t → InOrder at_most (insert at_most x l) → InOrder at_most (cond t (y ∷ insert at_most x l) (x ∷ y ∷ l))
          by true e more = (all_insert (λ z. at_most y z ≡ true) x l e o.0, more)
          by false e more = let before = total y x e in ((before, All-weaker (λ z. at_most y z ≡ true) (λ z. at_most x z ≡ true) (λ z h. transitive x y z before h) l o.0), o)

-- insertion before or after a map that keeps the order
pub map_insert : {D E : Type 0} (at_most : E → E → Bool) (f : D → E) (x : D) (l : List D) → map f (insert (λ a b. at_most (f a) (f b)) x l) ≡ insert at_most (f x) (map f l)
unfolding insert
map_insert at_most f x [] = refl
map_insert at_most f x (y ∷ l) = grind (arith, common_steps, map_insert at_most f x l)
