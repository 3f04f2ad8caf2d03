-- Ways out of receiving a reading and of the codeword test, as the calls say them. Assumes nothing.
use Rattle.std.proofs.Common.{◌≡◌, ℕ, Bool, List, length, Ok, Err, Option, sym, refl, ap, ◌∙◌, subst, inl, inr, ⊎_elim, arith}
use Rattle.std.proofs.lemmas.Bool.{cases_eq}
use Rattle.refusals.specs.declared.refusal.Refusal.{Refusal}
use Rattle.refusals.specs.declared.refusal.Refusal.TheVariants.{Unsound}
use Rattle.refusals.specs.Refusals.{NoCause, row}
use Rattle.bch.specs.declared.code.Code.{Code}
use Rattle.bch.specs.Codes.{places, code_number, Codeword}
use Rattle.receiving.specs.declared.received.Received.{Received}
use Rattle.receiving.specs.Causes.{Whole, reading_causes}
use Rattle.receiving.specs.Receiving.{received_bits, Copies, ReceivedOf, Receives}
use Rattle.receiving.specs.Tests.{Says, Tests}
use Rattle.readings.proofs.Unsound.{lowest_is}

module _ (l : List (Option Bool)) (number : ℕ) where
  module _ (k : Code) (is : code_number k ≡ number) where
    pub refuse_unsound : length l ≡ places → (x : Refusal) → Copies l (Err x) → Receives l number (Err x)
    refuse_unsound long x (p, stops, low) = record {
      fits = inr (inr (inl (stops ∙ ap Unsound (sym (lowest_is l p low)), (p, low.unsound))));
      first = ((λ _ none. none k is), ((λ _ not. not long), ((λ b. absurd (omega (arith, ap row stops))), tt)));
      returns = refl;
    }

    pub accept : (received : Received) → length l ≡ places → received.code ≡ k → Copies l (Ok (received_bits received)) → Receives l number (Ok received)
    accept received long code copies = (
      ((λ none. none k is), ((λ not. not long), ((λ some. copies.0 some), tt))),
      record { code = ap code_number code ∙ is; bits = copies.1 },
    )

  pub accept_test : (received : Received) (answer : Bool) → NoCause (reading_causes l number) → ReceivedOf l number received → Says answer (Codeword received.code (received_bits received)) → Tests l number (Ok answer)
  accept_test received answer none of says = (none, record { code = received.code; is = of.code; says = subst (λ w. Says answer (Codeword received.code w)) of.bits says })

  -- where no cause holds, the reading has 255 sound places
  pub none_whole : NoCause (reading_causes l number) → Whole l
  none_whole none = record { long = ⊎_elim (λ e. e) (λ not. absurd (none.1.0 not)) (cases_eq (length l) places); sound = none.1.1.0 }
