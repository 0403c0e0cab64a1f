-- Which messages are transfers of blocks, which are of control, and whose they are.
use Rattle.std.specs.Prelude.{ℕ, List, Bool, true, false, ◌==◌, ◌&&◌, ◌||◌}
use Rattle.std.specs.List.{list_any}
use Rattle.sial_syntax.specs.declared.access.Class.{Class}
use Rattle.sial_syntax.specs.Spaces.{same_class}
use Rattle.sip_model.specs.declared.message.Body.{Body}
use Rattle.sip_model.specs.declared.message.Body.TheVariants as body
use Rattle.sip_model.specs.Flight.{Flying}
use Rattle.sip_model.specs.Workers.{Posted, Worker}

-- whether a message is of control: it moves no block, and answers no such message
abbrev pub is_control : Body → Bool
is_control (body.Request class block epoch line) = false
is_control (body.Reply class block) = false
is_control (body.Put class block epoch line how put origin) = false
is_control (body.Ack put) = false
is_control (body.Ask instance place) = true
is_control (body.Give given) = true
is_control (body.Arrive sync place) = true
is_control (body.Release sync) = true
is_control (body.Contribute sync place value) = true
is_control (body.Total sync sum) = true

-- whether a message is one of control from or to a worker
abbrev pub is_control_of : (worker : ℕ) → Flying → Bool
is_control_of worker f = is_control f.message.body && ((f.message.from == worker) || (f.message.to == worker))

-- whether a put of this number and class isn't acknowledged
abbrev pub is_posted : (put : ℕ) → Class → List Posted → Bool
is_posted put class puts = list_any (λ (p : Posted). (p.put == put) && same_class p.class class) puts

-- whether a message belongs to a transfer of a class that a worker asked for: its Request or Put, or the Reply or Ack to it
abbrev pub is_transfer_of : (worker : ℕ) → Worker → Class → (from to : ℕ) → Body → Bool
is_transfer_of worker x class from to (body.Request c block epoch line) = (from == worker) && same_class c class
is_transfer_of worker x class from to (body.Reply c block) = (to == worker) && same_class c class
is_transfer_of worker x class from to (body.Put c block epoch line how put origin) = (from == worker) && same_class c class
is_transfer_of worker x class from to (body.Ack put) = (to == worker) && is_posted put class x.puts
is_transfer_of worker x class from to _ = false
