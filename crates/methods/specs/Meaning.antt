-- What a method of the code means, in the words of the rules.
use Rattle.fixed.specs.Items.{items}
use Rattle.order.specs.Tables.{relation}
use Rattle.semantics.specs.Methods as meant
use Rattle.methods.specs.Places.{going}
use Rattle.methods.specs.declared.method.Method.{Method}

abbrev pub method : Method → meant.Method
method m = record {
  task = m.task;
  steps = items m.steps;
  links = items m.links;
  before = relation m.order;
  needs_go = going m.needs;
  adds_go = going m.adds;
}
