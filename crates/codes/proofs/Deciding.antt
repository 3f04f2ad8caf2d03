-- Each way out of encoding and of taking a message out, as its call says it. Assumes nothing.
use Rattle.std.proofs.Common.{◌≡◌, ℕ, Bool, false, List, ◌++◌, length, drop, replicate, Ok, sym, refl, ap, ◌∙◌, subst, arith}
use Rattle.std.proofs.lemmas.List.{get_or_append_left, get_or-replicate, length-replicate, drop_at, length-append}
use Rattle.galois.specs.Polynomials.{bits, remainder}
use Rattle.bch.specs.declared.code.Code.{Code}
use Rattle.bch.specs.Codes.{places, code_number, parity, generator}
use Rattle.bch.specs.Messages.{Message, Carries, payload, encoding}
use Rattle.bch.proofs.Codewords.{parity_below}
use Rattle.bch.proofs.Messages.{payload_carries, carriers_equal, length_payload}
use Rattle.bch.proofs.Encoding.{encoding_carries, encoding_only}
use Rattle.codes.specs.declared.word.Word.{Word}
use Rattle.codes.specs.Steps.{Laid}
use Rattle.codes.specs.Calls.{Encodes}

pub accept : (words : List ℕ) (number : ℕ) (old new : Word) (k : Code) → code_number k ≡ number → Message words → new.code ≡ k → new.bits ≡ encoding k words
    → Encodes words number old new (Ok tt)
accept words number old new k is message code filled =
    let built : new.bits ≡ encoding new.code words = filled ∙ ap (λ q. encoding q words) (sym code) in (
      ((λ none. none k is), ((λ not. not message), tt)),
      (
        refl,
        record {
          code = ap code_number code ∙ is;
          codeword = record { long = new.long; zeros = new.zeros };
          carries = subst (Carries new.code words) (sym built) (encoding_carries new.code words message);
          only = λ w c h. encoding_only new.code words w c h ∙ sym built;
          built = built;
        },
      ),
    )

-- the message laid into an empty word stands above empty parity places
pub laid_payload : (k : Code) (m : List ℕ) (w : List Bool) → Message m → length w ≡ places → Laid m (parity k) (replicate places false) w → w ≡ replicate (parity k) false ++ payload k m
laid_payload k m w message long laid =
    let zeros = length-replicate (parity k) false in
    let target = replicate (parity k) false ++ payload k m in
    carriers_equal k m w target long (length-append (replicate (parity k) false) (payload k m) ∙ omega (arith, length_payload k m message.words))
    (record {
      message = message;
      placed = laid.placed;
      spare = λ i h l. laid.above i h ∙ get_or-replicate places i false false l;
    })
    (payload_carries k m target message (drop_at (replicate (parity k) false) (payload k m) (parity k) zeros))
    (λ i h. laid.below i h ∙ get_or-replicate places i false false (omega (arith, parity_below k)) ∙ sym (get_or_append_left (replicate (parity k) false) (payload k m) false i (omega arith) ∙ get_or-replicate (parity k) i false false h))

pub built : (k : Code) (m : List ℕ) (w full : List Bool) (rest : ℕ) → w ≡ replicate (parity k) false ++ payload k m → rest ≡ remainder (parity k) (generator k) w
    → full ≡ bits (parity k) rest ++ drop (parity k) w → full ≡ encoding k m
built k m w full rest e f g =
    g ∙ ap (λ r. bits (parity k) r ++ drop (parity k) w) f
    ∙ ap (λ v. bits (parity k) (remainder (parity k) (generator k) v) ++ drop (parity k) v) e
    ∙ ap (λ v. bits (parity k) (remainder (parity k) (generator k) (replicate (parity k) false ++ payload k m)) ++ v) (drop_at (replicate (parity k) false) (payload k m) (parity k) (length-replicate (parity k) false))
