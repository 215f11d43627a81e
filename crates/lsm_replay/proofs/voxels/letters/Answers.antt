-- The letters stand behind zeros, which are worth nothing.
use Rattle.std.proofs.Common.{◌∙◌}
use Rattle.lsm_replay.proofs.Told.{letters_number}
use Rattle.lsm_replay.proofs.voxels.letters.Goals as goal

pub returns : goal.returns
returns c =
    letters_number c.args.figure.items c.copy_from_slice.new.self c.len.ensures.value (c.copy_from_slice.ensures.after ∙ c.as_slice.ensures.value)
    c.len.ensures.fits c.from_be_bytes.ensures
