-- `mu_at`: the integral looked for is the one after (t0, m0), the point before those to come.
use mathlib.Core.Path.{◌∙◌}
use Rattle.std.proofs.lemmas.Slice.Zip.{either_empty_from_Zip}
use Rattle.moving_average.specs.Window.{point}
use Rattle.moving_average.proofs.Loops.{search_none, search_start, search_turn, search_end}
use Rattle.moving_average.proofs.integral.mu_at.Goals as goal

pub returns-in_default : goal.returns-in_default
returns-in_default c =
    let a = c.args in
    let e = either_empty_from_Zip c.zip-points.result c.next.new.self _ c.in_default.is c.next.ensures.steps in
    let all = rw (c.zip-points.ensures.first, c.zip-points.ensures.second.0, c.iter.ensures.rest) at e in
    rw (search_none a.target (point a.t_now a.mu_now) _ _ all)

pub returns-then-target-t0 : goal.returns-then-target-t0
returns-then-target-t0 c =
    let a = c.args in
    let s = c.in-Some.ensures.steps in
    let ts = rw (c.zip-points.ensures.first, c.iter.ensures.rest) at s.0 in
    let ms = rw (c.zip-points.ensures.second.0) at s.1 in
    rw (search_start a.target (point a.t_now a.mu_now) _ _ _ _ _ _ ts ms, c.if-target-t0.true)

pub loop-t1-init : goal.loop-t1-init
loop-t1-init c =
    let a = c.args in
    let s = c.in-Some.ensures.steps in
    let ts = rw (c.zip-points.ensures.first, c.iter.ensures.rest) at s.0 in
    let ms = rw (c.zip-points.ensures.second.0) at s.1 in
    rw (c.into_iter-t1-iterator.ensures.into_iter_gives, search_start a.target (point a.t_now a.mu_now) _ _ _ _ _ _ ts ms, c.if-target-t0.false)

pub returns-then-target-t1 : goal.returns-then-target-t1
returns-then-target-t1 c =
    let a = c.args in
    let l = c.loop-t1 in
    let s = c.in-Some-2.ensures.steps in
    rw (c.on_line.ensures, l.invariant, search_turn a.target (point a.t_now a.mu_now) (point l.t0 l.m0) _ _ _ _ _ _ s.0 s.1, c.if-target-t1.true)

pub loop-t1-preserved : goal.loop-t1-preserved
loop-t1-preserved c =
    let a = c.args in
    let l = c.loop-t1 in
    let s = c.in-Some-2.ensures.steps in
    l.invariant ∙ rw (search_turn a.target (point a.t_now a.mu_now) (point l.t0 l.m0) _ _ _ _ _ _ s.0 s.1, c.if-target-t1.false)

pub returns-then-target-t_now : goal.returns-then-target-t_now
returns-then-target-t_now c =
    let a = c.args in
    let l = c.loop-t1 in
    let e = either_empty_from_Zip l.t1-iterator c.next-in-loop-t1.new.self _ c.in-None.is c.next-in-loop-t1.ensures.steps in
    rw (c.on_line-then-target-t_now.ensures, l.invariant, search_end a.target (point a.t_now a.mu_now) (point l.t0 l.m0) _ _ e, c.if-target-t_now.true)

pub returns-else-target-t_now : goal.returns-else-target-t_now
returns-else-target-t_now c =
    let a = c.args in
    let l = c.loop-t1 in
    let e = either_empty_from_Zip l.t1-iterator c.next-in-loop-t1.new.self _ c.in-None.is c.next-in-loop-t1.ensures.steps in
    rw (l.invariant, search_end a.target (point a.t_now a.mu_now) (point l.t0 l.m0) _ _ e, c.if-target-t_now.false)
