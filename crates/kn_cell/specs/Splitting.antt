-- How a pass is cut in two, and how two are made one.
use Rattle.std.specs.Prelude.{ℕ, Bool, cond, ◌+◌, ◌-◌, ◌||◌, max, [], ◌∷◌, ◌++◌, None, true, false}
use Rattle.kn_event.specs.FixedSpec.{fixed_spec}
use Rattle.kn_event.specs.declared.revision.Slots.{Slots}
use Rattle.kn_record.specs.Admission.{admission}
use Rattle.kn_pods.specs.Pods.{no_pods}
use Rattle.kn_core.specs.State.{RevisionState}
use Rattle.kn_cell.specs.declared.view.Joined.{Joined}
use Rattle.kn_cell.specs.declared.view.View.{View}

abbrev pub less_one : View → View
less_one v = record v { free = v.free - 1 }

-- a new pass has seen as much, has the next number, and is not the scribe
abbrev pub newcomer : View → View
newcomer v = record {
  spent = false;
  turn = false;
  scribe = false;
  key = v.key;
  number = v.key.passes - v.free;
  free = 0;
  back = 0;
  missed = 0;
  gone = v.gone;
  seen = v.seen;
  mine = [];
  others = [];
}

abbrev pub as_joined : View → Joined
as_joined w = record { number = w.number; seen = w.seen; mine = w.mine }

-- how many rows were taken out, by what two passes know of it: who takes them knows it
abbrev pub gone_of : Bool → ℕ → ℕ → ℕ
gone_of scribe gone other = cond scribe gone (max gone other)

abbrev pub with_other : View → View → View
with_other v w = record v { scribe = v.scribe || w.scribe; back = v.back + 1 + w.free + w.back; gone = gone_of v.scribe v.gone w.gone; others = v.others ++ w.others ++ as_joined w ∷ [] }

abbrev no_slots : Slots
no_slots = record { depth = 0; max = 0; seed = 0 }

-- any revision, where none is meant
unfoldable pub blank : RevisionState
blank = record {
  spec = fixed_spec 0 0 0 no_slots;
  start = 0;
  clock = 0;
  events = 0;
  parts = record { throttle = record { spec = fixed_spec 0 0 0 no_slots; admission = admission [] }; pods = no_pods; scaler = None };
}

-- what is left of a pass that was joined
abbrev pub spent_view : View
spent_view = record {
  spent = true;
  turn = false;
  scribe = false;
  key = record { opening = record { marker = record {}; value = blank }; lasting = false; room = 0; passes = 0; addresses = 0 };
  number = 0;
  free = 0;
  back = 0;
  missed = 0;
  gone = 0;
  seen = [];
  mine = [];
  others = [];
}
