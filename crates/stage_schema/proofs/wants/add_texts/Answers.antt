use Rattle.std.proofs.Common.{◌<◌, length, rules, sym}
use Rattle.stage_schema.proofs.WantLemmas.{texts_more}
use Rattle.stage_schema.proofs.wants.add_texts.Goals as goal

pub loop-item-preserved : goal.loop-item-preserved
loop-item-preserved c =
    let within : c.loop-item.item-index < length c.args.items.now = search rules in
    texts_more c.args.texts.now.keys c.loop-item.texts.keys c.insert.new.self.keys c.text_of.result c.args.items.now c.loop-item.item-index c.item-item.result within (sym c.item-item.is) c.text_of.ensures.same c.loop-item.invariant c.in_ok-insert.ensures.keys
