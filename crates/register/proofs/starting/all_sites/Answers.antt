use Rattle.std.proofs.Common.{◌≡◌, ◌+◌, map, vec_items, vec_len, ap, ◌∙◌, arith}
use Rattle.site.specs.State.{state}
use Rattle.register.specs.Start.{new_sites}
use Rattle.register.proofs.Sites.{sites_more}
use Rattle.register.proofs.starting.all_sites.Goals as goal
use Rattle.register.proofs.starting.all_sites.Goals.{else-loop-number-test, then-loop-number-test+else-number-size}

pub loop-number-preserved : goal.loop-number-preserved
loop-number-preserved c =
    let pushed = c.push_reserved.ensures in
    let old = c.loop-number.invariant in
    let made = rw (c.unwrap.ensures, old.next) at c.new.ensures in
    record {
      next = omega (arith, pushed.len, old.next);
      room = omega (arith, pushed.capacity, old.room);
      made = rw pushed.len (ap (map state) pushed.items ∙ sites_more c.args.size (vec_len c.loop-number.sites) (vec_items c.loop-number.sites) c.unwrap.result old.made made.2);
    }

pub returns : goal.returns
returns c =
    let old = c.loop-number.invariant in
    elim c.loop-number-test.branch [
      | else-loop-number-test w ↦ absurd (omega (arith, w.loop-number-test.false, c.loop-number.auto.number-end c.requires.0))
      | then-loop-number-test+else-number-size w ↦
          let pushed = w.push_reserved.ensures in
          let made = rw (w.unwrap.ensures, old.next) at w.new.ensures in
          let all = ap (map state) pushed.items ∙ sites_more c.args.size (vec_len c.loop-number.sites) (vec_items c.loop-number.sites) w.unwrap.result old.made made.2 in
          let n : vec_len c.loop-number.sites + 1 ≡ c.args.size = omega (arith, old.next, w.loop-number-test.true) in
          rw w.sites-is (all ∙ ap (new_sites c.args.size) n)
    ]
