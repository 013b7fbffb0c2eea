-- The ring that an end belongs to.
use Rattle.std.specs.Prelude.{Option, Some}
use denote.RawPtr.{Ptr}
use Rattle.rtrb.specs.Shared.{Names}
use Rattle.rtrb.specs.declared.producer.Producer.{Producer}
use Rattle.rtrb.specs.declared.consumer.Consumer.{Consumer}

pub record Ring : Type 0 where
  pub words : Ptr
  pub slots : Ptr
  pub names : Names

module _ {T A P : Type 0} where
  abbrev pub pushes_to : Producer T A P → Option Ring
  pushes_to p = Some (record { words = p.end.words; slots = p.end.slots; names = p.end.names })

  abbrev pub pops_from : Consumer T A P → Option Ring
  pops_from c = Some (record { words = c.end.words; slots = c.end.slots; names = c.end.names })
