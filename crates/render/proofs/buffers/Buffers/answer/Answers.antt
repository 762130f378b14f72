use Rattle.render.specs.Models.{input_model}
use Rattle.render.specs.Laws.{Files}
use Rattle.render.proofs.Wholes.{short_inputs, answered, most_bytes, refused_so, refusal_written}
use Rattle.render.proofs.Order.{in_order}
use Rattle.render.proofs.ReadBack.{inputs_back}
use Rattle.render.proofs.buffers.Buffers.answer.Goals as goal

files : Files
files = record { short = short_inputs; order = in_order; back = inputs_back }

pub returns-in-Ok-clause-value : goal.returns-in-Ok-clause-value
returns-in-Ok-clause-value c = answered (input_model c.args.input.now) c.args.self.now.records.now c.draw.new.self.records.now c.args.self.now.out.now c.draw.new.self.out.now c.in-Ok.length c.in-Ok.ensures.value

pub returns-in-Ok-clause-most : goal.returns-in-Ok-clause-most
returns-in-Ok-clause-most c = most_bytes c.args.input.now c.args.self.now.records.now c.draw.new.self.records.now c.args.self.now.out.now c.draw.new.self.out.now c.in-Ok.length c.in-Ok.ensures.value

pub returns-in-Ok-clause-files : goal.returns-in-Ok-clause-files
returns-in-Ok-clause-files c = files

pub returns-in-Err-clause-value : goal.returns-in-Err-clause-value
returns-in-Err-clause-value c =
    let e = c.in-Err.fault in
    let r = refused_so c.args.input.now c.args.self.now.records.now c.draw.new.self.records.now c.args.self.now.out.now c.draw.new.self.out.now e c.in-Err.ensures.value in
    refusal_written c.args.input.now c.args.self.now.records.now c.draw.new.self.records.now c.put.new.self.records.now c.args.self.now.out.now c.draw.new.self.out.now c.put.new.self.out.now e c.put.result c.word.result
    r c.put.ensures.kept c.word.ensures c.put.ensures.wrote c.put.ensures.long

pub returns-in-Err-clause-files : goal.returns-in-Err-clause-files
returns-in-Err-clause-files c = files
