-- What the program reads: the first page for what was read is that for the whole input.
--     input-full    where the buffer is full
--     input-by      by what was read
use Rattle.words.proofs.Plain.{ℕ, ◌≤◌, ◌≡◌, List, length, take}
use Rattle.std.specs.Prelude.{Ok, Err}
use Rattle.plan_spec.proofs.First.{plan-first}
use Rattle.listing_spec.specs.{declared.State.State, declared.Page.Page, Prints.most_printed}
use Rattle.listing_spec.specs.Paging.{FirstPage, small, refused, listed, Paged}
use Rattle.program_reading_inner.specs.declared.Most.{Most}
use Rattle.program_reading_inner.specs.declared.Most.TheVariants as M
use Rattle.listing_program_inner.specs.Says.{list_line_bytes, FirstPageSays}

-- the first page for the first m characters, m at least 9, is that for all
first-first : (m : ℕ) (s : List ℕ) → list_line_bytes ≤ m → (room : ℕ) (t : List ℕ) (state : State) → FirstPage (take m s) room t state → FirstPage s room t state
first-first m s h room t state (small l e f) = small l e f
first-first m s h room t state (refused l r p e f) = refused l r (plan-first m s h most_printed (Err r) p) e f
first-first m s h room t state (listed l k n u rest p g e f) = listed l k n u rest (plan-first m s h most_printed (Ok (k, n)) p) g e f

-- the first page for a full buffer is that for any input that begins so
pub input-full : (line b : List ℕ) (r : Page) (b' : List ℕ) → list_line_bytes ≤ length line → Paged (FirstPage line (length b)) b r b' → FirstPageSays M.Full line b r b'
input-full line b r b' h p = λ s e.
    record {
      text = p.text;
      says = first-first (length line) s h (length b) p.text r.state (rw e p.says);
      fits = p.fits;
      long = p.long;
      bytes = p.bytes;
    }

-- by what was read
pub input-by : (most m : Most) (line b : List ℕ) (r : Page) (b' : List ℕ) → most ≡ m → FirstPageSays m line b r b' → FirstPageSays most line b r b'
input-by most m line b r b' e p = rw e p
