-- The field of bytes and its logarithm. Assumes nothing.
use Rattle.std.specs.Prelude.{◌≡◌, ℕ, ◌<◌, Some, None, Option}
use Rattle.galois.specs.Field.{Field, nonzeros}
use Rattle.galois.specs.Binary.{binary}

-- polynomials below degree 8 modulo x^8 + x^4 + x^3 + x^2 + 1
unfoldable pub bytes : Field
bytes = binary 8 0x11D

-- the logarithm of a: absent exactly for zero, and otherwise the one exponent below 255 whose power is a
abbrev pub Logarithm : ℕ → Option ℕ → Type 0
Logarithm a None = a ≡ 0
Logarithm a (Some i) = (i < nonzeros bytes) × (bytes.power i ≡ a)
