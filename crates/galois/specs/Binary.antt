-- Binary fields: the polynomials over GF(2) below degree n, modulo a polynomial p of degree n. Assumes nothing.
use Rattle.std.specs.Prelude.{ℕ, zero, suc, ◌+◌, ◌^◌}
use Rattle.std.specs.Int.Bits.{bit_xor}
use Rattle.galois.specs.Field.{Field}
use Rattle.galois.specs.Polynomials.{bits, carryless, twice, remainder}

-- the product of two polynomials below degree n: multiplied, and the remainder taken on division by p
abbrev pub product : ℕ → ℕ → ℕ → ℕ → ℕ
product n p a b = remainder n p (bits (n + n) (carryless (bits n a) b))

-- the k-th power of x modulo p
abbrev pub power_of : ℕ → ℕ → ℕ → ℕ
power_of n p zero = 1
power_of n p (suc k) = twice n p (power_of n p k)

-- the field of the polynomials below degree n, with α = x
abbrev pub binary : ℕ → ℕ → Field
binary n p = record { size = 2 ^ n; plus = bit_xor; times = product n p; power = power_of n p }
