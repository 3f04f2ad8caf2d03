-- The encoding of a message is the one codeword that carries it. Assumes nothing.
use Rattle.std.proofs.Common.{◌≡◌, ℕ, Bool, List, ap, ◌∙◌}
use Rattle.std.proofs.lemmas.List.{drop_at}
use Rattle.galois.specs.Polynomials.{bits}
use Rattle.galois.specs.Words.{systematic}
use Rattle.galois.proofs.Words.{length_bits}
use Rattle.bch.specs.declared.code.Code.{Code}
use Rattle.bch.specs.Codes.{parity, generator, Codeword}
use Rattle.bch.specs.Messages.{Message, Carries, payload, encoding}
use Rattle.bch.proofs.Codewords.{codeword_systematic, systematic_codeword}
use Rattle.bch.proofs.Messages.{length_payload, payload_carries, carries_payload}

pub encoding_codeword : (k : Code) (m : List ℕ) → Message m → Codeword k (encoding k m)
encoding_codeword k m h = systematic_codeword k (payload k m) (length_payload k m h.words)

pub encoding_carries : (k : Code) (m : List ℕ) → Message m → Carries k m (encoding k m)
encoding_carries k m h = payload_carries k m (encoding k m) h (drop_at (bits (parity k) _) (payload k m) (parity k) (length_bits (parity k) _))

pub encoding_only : (k : Code) (m : List ℕ) (w : List Bool) → Codeword k w → Carries k m w → w ≡ encoding k m
encoding_only k m w c h = codeword_systematic k w c ∙ ap (systematic (parity k) (generator k)) (carries_payload k m w c.long h)
