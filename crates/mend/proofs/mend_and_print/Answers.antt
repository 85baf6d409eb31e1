use Rattle.std.proofs.Common.{arith, ap, sym, length, length-take-le}
use Rattle.mending_text.specs.declared.Report.{Report}
use Rattle.mending_text.proofs.Printed.{volume_fits}
use Rattle.mend.proofs.mend_and_print.Goals as goal

-- The bytes of the volume that are printed are there.
pub slice_bounds-write_all-end-2 : goal.slice_bounds-write_all-end-2
slice_bounds-write_all-end-2 g c = omega (arith, ap (λ (r : Report). r.volume) c.render-report.ensures.0, ap length c.render-report.ensures.1, volume_fits c.args.volume.now)

pub slice_bounds-write_all-end-3 : goal.slice_bounds-write_all-end-3
slice_bounds-write_all-end-3 g c =
    let r = c.render-report in
    sym (length-take-le r.result.volume r.new.volume (omega (arith, ap (λ (r : Report). r.volume) r.ensures.0, ap length r.ensures.1, volume_fits c.args.volume.now)))
