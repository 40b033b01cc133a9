-- The guarded choice is worth what is asked of a guarded set.
--     guarded-most      it takes at most the wanted number
--     guarded-worth     every sentence of `GuardedWorth`, where `full` says whether the wanted number was taken
use Rattle.words.proofs.Plain.{ℕ, ◌<◌, ◌≤◌, arith, ◌≡◌, sym, ◌∙◌, Bool, List, [], eqb, length, eqb-true}
use Rattle.set_spec.specs.Worth.{Spread}
use Rattle.set_laws.proofs.{Choice.Extends, Choice.Settling, Worth.near-stays}
use Rattle.set_laws.proofs.Chosen.{chosen-most, chosen-members, chosen-rising, chosen-looked, chosen_last, chosen-keeps, chosen-fewer, chosen-settled, chosen-all}
use Rattle.guard_spec.specs.Sides.{sides, Guarded}
use Rattle.guard_spec.specs.Choice.{joins, guarded, guarded_looked}
use Rattle.guard_spec.specs.Worth.{near, behind, sided, unsteady, Decided, took, left_out, GuardedWorth}
use Rattle.guard_laws.proofs.{Sides.Long, Joins.joins-more, Joins.joins-not}

-- taken, or there is a reason against it
settling : (d : ℕ) → Settling (joins d) (Decided d)
settling d = record { member = λ ts w o. took o; kept_out = λ ts w a h. left_out (joins-not d ts w a h); stays = stays }
  where
    stays : (ts us : List (List ℕ)) (w : List ℕ) → Extends ts us → Decided d ts w → Decided d us w
    stays ts us w x (took o) = let r = x o.at o.inside in took (record { at = o.at; inside = r.0; is = r.1 ∙ o.is })
    stays ts us w x (left_out (near n)) = left_out (near (near-stays d ts us w x n))
    stays ts us w x (left_out (behind i l b q)) = let r = x i l in left_out (behind i r.0 (rw r.1 b) (rw r.1 q))
    stays ts us w x (left_out (sided q)) = left_out (sided q)
    stays ts us w x (left_out (unsteady u)) = left_out (unsteady u)

-- no rings are guarded
none-guarded : (d : ℕ) → Guarded d []
unfolding sides
none-guarded d = record { spread = nothing-near; steady = λ i h. absurd (omega arith) }
  where
    nothing-near : Spread d (sides [])
    nothing-near i j b h = absurd (omega arith)

module _ (n k d want : ℕ) where
  pub guarded-most : length (guarded n k d want) ≤ want
  unfolding guarded
  guarded-most = chosen-most (joins d) n k want

  -- the set is guarded
  guards : 0 < n → Guarded d (guarded n k d want)
  unfolding guarded
  guards z =
      (chosen-keeps (joins d) n k want (λ ts. Long n ts × Guarded d ts) (λ ts w p l e. joins-more d ts w n z p.0 l.reading.long p.1 e)
      (λ j h. absurd (omega arith), none-guarded d)).1

  pub guarded-worth : 0 < n → (full : Bool) → full ≡ eqb (length (guarded n k d want)) want → GuardedWorth n k d want (guarded n k d want) (guarded_looked n k d want) full
  unfolding guarded guarded_looked
  guarded-worth z full e =
      let fewer = chosen-fewer (joins d) n k want full e in
      record {
        members = chosen-members (joins d) n k want;
        rising = chosen-rising (joins d) n k want;
        guarded = guards z;
        looked-at = chosen-looked (joins d) n k want;
        last-looked = λ f. chosen_last (joins d) n k want (eqb-true (length (guarded n k d want)) want (sym e ∙ f));
        decided = chosen-settled (joins d) n k want (Decided d) (settling d);
        enough = λ f. eqb-true (length (guarded n k d want)) want (sym e ∙ f);
        short = fewer;
        none_left = λ f. chosen-all (joins d) n k want (Decided d) (settling d) (fewer f);
      }
