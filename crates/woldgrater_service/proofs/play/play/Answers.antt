-- `play`: the row file is one chunk, and the end is said after what was said of it.
use Prim.Native.Nat.{ℕ, ◌+◌, ◌-◌, ◌*◌}
use mathlib.Core.List.{List, ◌++◌}
use native.Mathlib.Omega.{arith}
use lib.ListN.{length, take, drop, length-drop, take-append-drop}
use Rattle.woldgrater_service.proofs.Playing.{end_fits, played}
use Rattle.woldgrater_service.proofs.play.play.Goals as goal

pub returns : goal.returns
returns c =
    let answers = 22 * (256 + length c.args.rows.now) in
    let beyond : List ℕ = drop answers c.args.out.now in
    let first = c.feed-fed.new.out in
    let sent = c.feed-fed.result.sent in
    let X : List ℕ = first ++ beyond in
    played c.fresh_at-reader.result c.feed-fed.new.reader c.fresh_at-reader.ensures _ _ _ _ _ _ _ _ _ first beyond (take (length X - sent) (drop sent X)) _ _ sent _
    (take-append-drop answers c.args.out.now)
    c.feed-fed.ensures.fed
    c.feed-fed.auto.out
    (take-append-drop (length X - sent) (drop sent X))
    (omega (arith, c.finish-said.ensures.1, end_fits first beyond sent c.feed-fed.ensures.fed.said_fits (omega (arith, length-drop answers c.args.out.now))))
    c.finish-said.ensures.0
