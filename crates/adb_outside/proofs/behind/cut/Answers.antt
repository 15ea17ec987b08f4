use Rattle.std.proofs.Common.{◌++◌, ◌-◌, length, take, drop, ◌∙◌, ap}
use Rattle.adb_outside.proofs.Framers.{from_place, goes_on, is_over}
use Rattle.adb_outside.proofs.behind.cut.Goals as goal

pub loop-front-preserved : goal.loop-front-preserved
loop-front-preserved g c =
    goes_on g.S.Format.find g.S.Format.item g.S.Format.after g.met.S.Format.framing _ c.loop-front.invariant (record {
      size = c.in-Whole.n;
      whole = c.in-Whole.is;
      value = c.in_ok-item.item;
      holds = c.in_ok-item.ensures;
      given = _;
      more = c.in_ok-push_back.ensures.items;
      reading = c.past-format.result;
      past = c.past-format.ensures;
      front = c.front-front-in-Whole.result;
      found = c.front-front-in-Whole.ensures;
    })

pub returns : goal.returns
returns g c =
    let bytes = c.args.bytes.now in
    let at = c.loop-front.at in
    let over = is_over g.S.Format.find g.S.Format.item g.S.Format.after g.met.S.Format.framing _
    c.loop-front.invariant (λ n. c.in_default.not-Whole n) in
    let held =
    c.in_ok-push.ensures.ok ∙ (ap (λ h. h ++ take (length bytes - at) (drop at bytes)) c.new-held.ensures ∙ from_place at bytes) in
    record {
      cut = ap (λ b. record { given = c.loop-front.ready.items; reading = c.loop-front.format; rest = b; fault = c.fault.result }) held
          ∙ (ap (λ f. record {
            given = c.loop-front.ready.items;
            reading = c.loop-front.format;
            rest =
                drop at bytes;
            fault = f;
          }) c.fault.ensures
          ∙ over);
      ready = c.loop-front.invariant.front_of;
    }
