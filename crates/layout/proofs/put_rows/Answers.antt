-- So far the first rows stand in their place; the rest is as before.
use Prim.Native.Nat.{◌+◌, ◌-◌, ◌*◌, ◌≤◌}
use native.Mathlib.Omega.{arith}
use mathlib.Core.Path.{◌≡◌, sym, ◌∙◌, ap}
use lib.ListN.{length, get_or, drop, length-drop}
use lib.Seq.{length-take-le}
use Rattle.std.proofs.lemmas.List.{get_or_default}
use Rattle.layout.proofs.Bytes.{put_none, put_row, put_part, row_more, room}
use Rattle.layout.proofs.put_rows.Goals as goal

pub loop-i-init : goal.loop-i-init
loop-i-init g c =
    let a = c.args in
    (c.requires, put_none g.T.ToBytes.bytes g.T.ToBytes.blank g.row.W a.rows.now a.start a.bytes.now (a.start + 0 * g.row.W) (0 * g.row.W) (omega arith) (omega arith))

pub loop-i-preserved : goal.loop-i-preserved
loop-i-preserved g c =
    let l = c.loop-i in
    let a = c.args in
    let w = g.row.W in
    let at = a.start + l.i * w in
    let fits : at + w ≤ length l.bytes = omega (arith, room l.i (length a.rows.now) w c.loop-i-test.true) in
    let size : at + w - at ≡ w = omega arith in
    let ys = c.copy_from_slice.new.self in
    let long : length ys ≡ w = (rw size at c.copy_from_slice.ensures.len) ∙ length-take-le w (drop at l.bytes) (omega (arith, length-drop at l.bytes)) in
    let row : c.index-rows-i.result ≡ get_or a.rows.now l.i g.T.ToBytes.blank = c.index-rows-i.is ∙ get_or_default a.rows.now l.i c.index-rows-i.result g.T.ToBytes.blank c.loop-i-test.true in
    let written : ys ≡ g.T.ToBytes.bytes (get_or a.rows.now l.i g.T.ToBytes.blank) = c.copy_from_slice.ensures.after ∙ c.to_bytes.ensures ∙ ap g.T.ToBytes.bytes row in (
      c.requires,
      put_row g.T.ToBytes.bytes g.T.ToBytes.blank w a.rows.now a.start a.bytes.now at (a.start + (l.i + 1) * w) l.i l.bytes _ (sym (ap length written) ∙ long) (omega (arith, row_more l.i w)) l.invariant.1
          (put_part at w (g.T.ToBytes.bytes (get_or a.rows.now l.i g.T.ToBytes.blank)) ys l.bytes written long fits),
    )
