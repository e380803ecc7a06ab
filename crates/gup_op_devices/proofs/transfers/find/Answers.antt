use Rattle.std.proofs.Common.{length, sym, ◌∙◌}
use Rattle.gup_dio.proofs.Words.{index_fits}
use Rattle.gup_op_devices.proofs.transfers.find.Goals as goal

pub frame_at-requires : goal.frame_at-requires
frame_at-requires c =
    let a = c.args in
    let fits = sym c.fits.ensures ∙ c.if-not-fits.false in
    rw c.at-place.ensures.index (index_fits (length c.in-Ok.pages.now) a.slots a.job.now a.far fits c.requires.within)
