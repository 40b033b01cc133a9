-- `desk_inner::verb_of` meets its contract.
use Rattle.desk_inner.proofs.Verbs.{first-known}
use Rattle.desk_spec.specs.Verbs.{about_of, both_of, count_of, step_of, strip_of, camera_of, shades_of, verb_of}
use Rattle.desk_inner.proofs.verb_of.Goals as goal

pub returns : goal.returns
unfolding verb_of
returns c =
    let t = c.args.t.now in
    rw (c.or-6.ensures, c.or-5.ensures, c.or-4.ensures, c.or-3.ensures, c.or-2.ensures, c.or.ensures)
    (rw (c.about_of.ensures, c.both_of.ensures, c.count_of.ensures, c.step_of.ensures, c.strip_of.ensures, c.camera_of.ensures, c.shades_of.ensures)
    (first-known (about_of t) (both_of t) (count_of t) (step_of t) (strip_of t) (camera_of t) (shades_of t)))
