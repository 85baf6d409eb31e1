use Rattle.std.proofs.Common.{◌≡◌, ℕ, ◌+◌, ◌-◌, ◌≤◌, List, ◌++◌, length, take, length-append, append_assoc, sym, ap, ◌∙◌, arith}
use lib.ListN.{length-replicate}
use lib.Seq.{length-take-le, take_at}
use borrow.Rule.Slice.PartMut.{put_mid, post_of, same_len_mid, mid_len, drop_put}
use Rattle.writing.specs.Written.{Wrote}
use Rattle.blocks.specs.Bytes.{zeros}
use Rattle.blocks.proofs.bytes.put_zeros.Goals as goal

-- a part of a list that is written over
part_wrote : (xs ys : List ℕ) (a e : ℕ) → a ≤ e → e ≤ length xs → length ys ≡ e - a → Wrote xs (put_mid a (e - a) xs ys) a e ys
part_wrote xs ys a e h g l =
    record {
      long = same_len_mid a (e - a) xs ys (l ∙ sym (mid_len a e xs g));
      next = omega arith;
      front = ap (take e) (sym (append_assoc (take a xs) ys (post_of a (e - a) xs)))
          ∙ take_at (take a xs ++ ys) (post_of a (e - a) xs) e (omega (arith, length-append (take a xs) ys, length-take-le a xs (omega arith)));
      rest = drop_put a e xs ys h g l;
    }

pub returns : goal.returns
returns c =
    let x = c.args in
    let n : x.at + x.n - x.at ≡ x.n = omega arith in
    let all : c.fill.new.self ≡ zeros x.n = c.fill.ensures.after (λ y k. k) ∙ ap (λ (j : ℕ). zeros j) (mid_len x.at (x.at + x.n) x.out.now c.requires ∙ n) in
    rw all (part_wrote x.out.now (zeros x.n) x.at (x.at + x.n) (omega arith) c.requires (length-replicate x.n 0 ∙ sym n))
