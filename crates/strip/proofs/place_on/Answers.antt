-- `strip::place_on` meets its contract: on the strip that was written the reading has its one place.
use Rattle.strip.proofs.Telling.{place-asked}
use Rattle.strip.proofs.place_on.Goals as goal

pub place_in-requires : goal.place_in-requires
place_in-requires c =
    record {
      s_len_bound = (place-asked c.args.reading.now c.args.k c.requires.passed _ c.requires.listable c.write_whole.ensures).0;
      reading_len_bound = (place-asked c.args.reading.now c.args.k c.requires.passed _ c.requires.listable c.write_whole.ensures).1.0;
      by_index = (place-asked c.args.reading.now c.args.k c.requires.passed _ c.requires.listable c.write_whole.ensures).1.1;
    }

pub returns : goal.returns
returns c = rw c.write_whole.ensures at c.place_in.ensures
