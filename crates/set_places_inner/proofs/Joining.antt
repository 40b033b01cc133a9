-- The test of a rule, read from the places.
--     clear-more             the test against one word more
--     may-in                 read from the places, the test of a rule is that of the definition
--     not-clear-in, may-guarded    what the rule makes of what is told of the fronts, and of the other sides
use Rattle.words.proofs.Plain.{ℕ, ◌≤◌, ◌≡◌, refl, sym, ap, ◌∙◌, Bool, true, false, ◌&&◌, List, [], ◌∷◌, ◌++◌, length, get_or}
use Rattle.words.specs.Search.{all_below}
use Rattle.words.proofs.Split.{not_left}
use Rattle.rings.specs.Alike.{mirrored}
use Rattle.set_spec.specs.Greedy.{far_from, clear}
use Rattle.set_laws.proofs.Lists.{length_more, at_old, at_new}
use Rattle.guard_spec.specs.{declared.Rule.Rule, declared.Rule.TheVariants.Plain, declared.Rule.TheVariants.Guarded}
use Rattle.guard_spec.specs.Choice.{joins, may_join}
use Rattle.set_clear_inner.specs.Says.{HoldsSet, Comparable, clear_in}
use Rattle.set_clear_inner.proofs.Clear.{all-cong, clear_in_lem}
use Rattle.set_guard_inner.specs.Says.{guard_in}
use Rattle.set_places_inner.specs.Says.{may_in}

-- one word more
clear-more : (d : ℕ) (ts : List (List ℕ)) (w v : List ℕ) → clear d (ts ++ (w ∷ [])) v ≡ (clear d ts v && far_from d w v)
unfolding clear all_below
clear-more d ts w v =
    rw (length_more ts w, at_new ts w) (ap (λ (b : Bool). b && far_from d w v)
    (all-cong (length ts) (λ j. far_from d (get_or (ts ++ (w ∷ [])) j []) v) (λ j. far_from d (get_or ts j []) v) (λ j b. ap (λ (x : List ℕ). far_from d x v) (at_old ts w j b))))

pub may-in : {n k : ℕ} {ts : List (List ℕ)} {p q : List ℕ} {t : ℕ} (rule : Rule) (d : ℕ) (w : List ℕ) → n ≤ 24 → t ≤ 32 → HoldsSet n k ts p q t →
    may_in rule n d p t w ≡ may_join rule d ts w
unfolding joins
may-in Plain d w short most h = clear_in_lem d w short most h
may-in {ts = ts} Guarded d w short most h = rw (clear_in_lem d w short most h, clear_in_lem d (mirrored w) short most h, clear-more d ts w (mirrored w)) refl

-- what the rule makes of what is told
module _ {p q : List ℕ} {t : ℕ} {w c : List ℕ} {k : ℕ} (a : Comparable p q t w c k) (d : ℕ) {x : Bool} (f : x ≡ clear_in (length w) d p t w) where
  pub not-clear-in : (rule : Rule) → x ≡ false → false ≡ may_in rule (length w) d p t w
  not-clear-in Plain e = sym (sym f ∙ e)
  not-clear-in Guarded e = sym (not_left (clear_in (length w) d p t w) (guard_in (length w) d p t w) (sym f ∙ e))

  pub may-guarded : x ≡ true → {r : Bool} → r ≡ guard_in (length w) d p t w → r ≡ may_in Guarded (length w) d p t w
  may-guarded e g = g ∙ sym (rw (sym f ∙ e) refl)
