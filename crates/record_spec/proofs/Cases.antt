-- Records to check by hand, of the definitions themselves: one table, one claim.
--     answers c s m r    the catalogue c, read at s with an output of m bytes, answers r
--     shows x c s v      the record at s of c, which is of kind x, has the front ring v
--     stores x k w c     the record of kind x of the ring of w in k shades is the bytes c
-- The rows are document 01's front record and request k's packed one, read and written, the retired mark, the ends of a catalogue, and one row for each pair of faults whose
-- order a reader may mistake.
use Rattle.words.proofs.Plain.{ℕ, ◌≡◌, refl, List, [], ◌∷◌, ◌++◌, replicate, drop}
use Rattle.words.specs.{Table.Hold, Search.least}
use Rattle.packing_spec.specs.Open.{open-packing}
use Rattle.rings.specs.Open.{open-all}
use Rattle.refusal.specs.declared.Refusal.TheVariants.{Length, Shades, Sector, Room, Cut, Mark, NotHome, Retired, Padding}
use Rattle.refusal.proofs.Facts.{within}
use Rattle.refusal.proofs.Tests.{unless, or_else, failing, answer}
use Rattle.record_spec.specs.{declared.Kind.Kind, declared.Kind.TheVariants.Front, declared.Kind.TheVariants.Packed}
use Rattle.std.specs.Prelude.{Result, Ok, Err, Option, None}
use Rattle.refusal.specs.declared.Refusal.{Refusal}
use Rattle.record_spec.specs.{declared.Record.Record, Layout.kind_by_mark, Layout.stored_ring, Says.entry}
use Rattle.record_spec.proofs.Wrote.{record_bytes}
use Rattle.record_spec.proofs.Answer.{begins, known, behind_tests, record_tests, read_tests, refused_or, record_entry, entry_of}

pub data Case : Type 0 where
  answers : List ℕ → ℕ → ℕ → Result (Option Record) Refusal → Case
  shows : Kind → List ℕ → ℕ → List ℕ → Case
  stores : Kind → ℕ → List ℕ → List ℕ → Case

-- document 01's two records: 52 42 06 02 00 00 01 00 01 01, and the same with 52 46
abbrev pub back_record : List ℕ
back_record = 0x52 ∷ 0x42 ∷ 6 ∷ 2 ∷ 0 ∷ 0 ∷ 1 ∷ 0 ∷ 1 ∷ 1 ∷ []

abbrev pub front_record : List ℕ
front_record = 0x52 ∷ 0x46 ∷ 6 ∷ 2 ∷ 0 ∷ 0 ∷ 1 ∷ 0 ∷ 1 ∷ 1 ∷ []

-- request k's: the front ring 001011 becomes 52 50 06 02 2C
abbrev pub packed_record : List ℕ
packed_record = 0x52 ∷ 0x50 ∷ 6 ∷ 2 ∷ 0x2C ∷ []

-- a front record of these numbers and sectors
abbrev pub front : ℕ → ℕ → List ℕ → List ℕ
front n k w = 0x52 ∷ 0x46 ∷ n ∷ k ∷ w

-- a packed record of these numbers and bytes
abbrev pub pack : ℕ → ℕ → List ℕ → List ℕ
pack n k b = 0x52 ∷ 0x50 ∷ n ∷ k ∷ b

unfoldable pub table : List Case
table =
    -- the front record, alone and behind the back record, which is retired, whatever follows its mark; with fewer than 4 bytes it is cut
    answers front_record 0 64 (entry 6 2 Front 10) ∷
    shows Front front_record 0 (0 ∷ 0 ∷ 1 ∷ 0 ∷ 1 ∷ 1 ∷ []) ∷
    answers (back_record ++ front_record) 10 64 (entry 6 2 Front 20) ∷
    shows Front (back_record ++ front_record) 10 (0 ∷ 0 ∷ 1 ∷ 0 ∷ 1 ∷ 1 ∷ []) ∷
    answers back_record 0 64 (Err (Retired 0)) ∷
    answers (front_record ++ (0x52 ∷ 0x42 ∷ 0 ∷ 99 ∷ [])) 10 64 (Err (Retired 10)) ∷
    answers (0x52 ∷ 0x42 ∷ 6 ∷ []) 0 64 (Err (Cut 0)) ∷
    answers (0x42 ∷ 0x42 ∷ 6 ∷ 2 ∷ []) 0 64 (Err (Mark 0)) ∷
    -- a catalogue of no bytes answers End at 0 and Cut at 1; the greatest start does not wrap
    answers [] 0 64 (Ok None) ∷
    answers [] 1 64 (Err (Cut 1)) ∷
    answers front_record 10 64 (Ok None) ∷
    answers front_record 18446744073709551615 64 (Err (Cut 18446744073709551615)) ∷
    -- n = 64 and k = 16 are accepted, 65 and 17 refused
    answers (front 64 16 (replicate 64 15)) 0 64 (entry 64 16 Front 68) ∷
    answers (front 65 16 (replicate 65 15)) 0 64 (Err (Length 2)) ∷
    answers (front 64 17 (replicate 64 15)) 0 64 (Err (Shades 3)) ∷
    -- Room is first, also before End and Cut
    answers [] 0 63 (Err Room) ∷
    answers [] 1 65 (Err Room) ∷
    -- the head is cut, whatever its bytes; then the mark, whatever follows it; then n, k, the body
    answers (0 ∷ 0 ∷ 0 ∷ []) 0 64 (Err (Cut 0)) ∷
    answers (0x46 ∷ 0x52 ∷ 0 ∷ 0 ∷ []) 0 64 (Err (Mark 0)) ∷
    answers (front_record ++ front 0 0 []) 10 64 (Err (Length 12)) ∷
    answers (front_record ++ front 4 1 (9 ∷ [])) 10 64 (Err (Shades 13)) ∷
    answers (front_record ++ front 4 2 (0 ∷ 9 ∷ 1 ∷ [])) 10 64 (Err (Cut 10)) ∷
    -- then the first bad sector, and last that the sectors are no necklace: Opening at the first of them, Loose where they go wrong
    answers (front_record ++ front 4 2 (1 ∷ 0 ∷ 2 ∷ 3 ∷ [])) 10 64 (Err (Sector 16)) ∷
    answers (front_record ++ front 4 2 (0 ∷ 1 ∷ 1 ∷ 0 ∷ [])) 10 64 (Err (NotHome 14)) ∷
    answers (front_record ++ front 4 2 (0 ∷ 1 ∷ 0 ∷ 0 ∷ [])) 10 64 (Err (NotHome 17)) ∷
    -- records written, from the home reading and from another turn; one sector; a ring that is not even-handed
    stores Front 2 (0 ∷ 0 ∷ 1 ∷ 0 ∷ 1 ∷ 1 ∷ []) front_record ∷
    stores Front 2 (1 ∷ 0 ∷ 1 ∷ 1 ∷ 0 ∷ 0 ∷ []) front_record ∷
    stores Front 16 (15 ∷ []) (front 1 16 (15 ∷ [])) ∷
    stores Front 3 (2 ∷ 0 ∷ 1 ∷ []) (front 3 3 (0 ∷ 1 ∷ 2 ∷ [])) ∷
    -- the packed record, written and read, and behind a front record
    stores Packed 2 (0 ∷ 0 ∷ 1 ∷ 0 ∷ 1 ∷ 1 ∷ []) packed_record ∷
    stores Packed 2 (1 ∷ 0 ∷ 1 ∷ 1 ∷ 0 ∷ 0 ∷ []) packed_record ∷
    answers packed_record 0 64 (entry 6 2 Packed 5) ∷
    shows Packed packed_record 0 (0 ∷ 0 ∷ 1 ∷ 0 ∷ 1 ∷ 1 ∷ []) ∷
    answers (front_record ++ packed_record) 10 64 (entry 6 2 Packed 15) ∷
    -- 0 1 2 4 of five shades, 000 001 01|0 100 0000: the third sector straddles two bytes
    stores Packed 5 (4 ∷ 0 ∷ 1 ∷ 2 ∷ []) (pack 4 5 (0x05 ∷ 0x40 ∷ [])) ∷
    shows Packed (pack 4 5 (0x05 ∷ 0x40 ∷ [])) 0 (0 ∷ 1 ∷ 2 ∷ 4 ∷ []) ∷
    -- n = 64 and k = 16 take 32 bytes, and one less is cut; 9 sectors of two shades take two bytes
    answers (pack 64 16 (replicate 32 0xFF)) 0 64 (entry 64 16 Packed 36) ∷
    answers (pack 64 16 (replicate 31 0xFF)) 0 64 (Err (Cut 0)) ∷
    answers (front_record ++ pack 9 2 (0 ∷ [])) 10 64 (Err (Cut 10)) ∷
    -- Sector at the byte of its first bit: 0 1 7 0, whose third sector straddles, with bits set in the padding; the fourth, in the second byte
    answers (front_record ++ pack 4 5 (0x07 ∷ 0x8F ∷ [])) 10 64 (Err (Sector 14)) ∷
    answers (front_record ++ pack 4 5 (0x05 ∷ 0x70 ∷ [])) 10 64 (Err (Sector 15)) ∷
    -- Padding at the last byte, before Not home: 1 0 and 1 0 0 1 0 0 0 0 0 are no necklaces
    answers (front_record ++ pack 2 2 (0x81 ∷ [])) 10 64 (Err (Padding 14)) ∷
    answers (front_record ++ pack 9 2 (0x90 ∷ 0x40 ∷ [])) 10 64 (Err (Padding 15)) ∷
    -- Not home: Opening at the first byte; Loose at the byte of the sector where it goes wrong: 1 1 0 1 at the third, which straddles, 011011010 at the ninth
    answers (front_record ++ pack 4 2 (0x60 ∷ [])) 10 64 (Err (NotHome 14)) ∷
    answers (front_record ++ pack 4 5 (0x24 ∷ 0x10 ∷ [])) 10 64 (Err (NotHome 14)) ∷
    answers (front_record ++ pack 9 2 (0x6D ∷ 0x00 ∷ [])) 10 64 (Err (NotHome 15)) ∷
    -- the mark is looked at first, the numbers before the bytes
    answers (0x52 ∷ 0x50 ∷ 6 ∷ []) 0 64 (Err (Cut 0)) ∷
    answers (pack 0 99 []) 0 64 (Err (Length 2)) ∷
    answers (pack 6 17 []) 0 64 (Err (Shades 3)) ∷ []

-- what a row says
unfoldable pub Holds : Case → Type 0
Holds (answers c s m r) = entry_of c s m ≡ r
Holds (shows x c s v) = stored_ring x (drop s c) ≡ v
Holds (stores x k w c) = record_bytes x k w ≡ c

pub records-read : Hold Holds table
unfolding table Hold Holds open-all open-packing entry_of record_entry refused_or read_tests record_tests behind_tests begins known kind_by_mark answer unless or_else failing within least
records-read = (
  refl,
  (
    refl,
    (
      refl,
      (
        refl,
        (
          refl,
          (
            refl,
            (
              refl,
              (
                refl,
                (
                  refl,
                  (
                    refl,
                    (
                      refl,
                      (
                        refl,
                        (
                          refl,
                          (
                            refl,
                            (
                              refl,
                              (
                                refl,
                                (
                                  refl,
                                  (
                                    refl,
                                    (
                                      refl,
                                      (
                                        refl,
                                        (
                                          refl,
                                          (
                                            refl,
                                            (
                                              refl,
                                              (
                                                refl,
                                                (
                                                  refl,
                                                  (
                                                    refl,
                                                    (
                                                      refl,
                                                      (
                                                        refl,
                                                        (
                                                          refl,
                                                          (
                                                            refl,
                                                            (
                                                              refl,
                                                              (
                                                                refl,
                                                                (
                                                                  refl,
                                                                  (
                                                                    refl,
                                                                    (
                                                                      refl,
                                                                      (
                                                                        refl,
                                                                        (
                                                                          refl,
                                                                          (
                                                                            refl,
                                                                            (
                                                                              refl,
                                                                              (
                                                                                refl,
                                                                                (refl, (refl, (refl, (refl, (refl, (refl, (refl, (refl, (refl, tt))))))))),
                                                                              ),
                                                                            ),
                                                                          ),
                                                                        ),
                                                                      ),
                                                                    ),
                                                                  ),
                                                                ),
                                                              ),
                                                            ),
                                                          ),
                                                        ),
                                                      ),
                                                    ),
                                                  ),
                                                ),
                                              ),
                                            ),
                                          ),
                                        ),
                                      ),
                                    ),
                                  ),
                                ),
                              ),
                            ),
                          ),
                        ),
                      ),
                    ),
                  ),
                ),
              ),
            ),
          ),
        ),
      ),
    ),
  ),
)
