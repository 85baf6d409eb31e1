use Rattle.std.proofs.Common.{sym, arith, length-take-le}
use Rattle.survey.proofs.mended.feed_mended.Goals as goal

-- The first block of the two is the front part of a longer list.
pub slice_bounds-feed_volume-end : goal.slice_bounds-feed_volume-end
slice_bounds-feed_volume-end c = sym (length-take-le 512 c.put_block.new.out (omega (arith, c.put_block.ensures)))
