use Rattle.gp_machine.specs.declared.event.Command.TheVariants as command
use Rattle.gp_machine.specs.Commands.{command_response}
use Rattle.gp_port.proofs.Wishes.{command_gives, no_wish}
use Rattle.gp_port.proofs.port_machine.PortMachine.command.Goals as goal

pub returns-in-Dealloc-clause-wished : goal.returns-in-Dealloc-clause-wished
returns-in-Dealloc-clause-wished c = rw c.in-Dealloc.is (no_wish c.args.self.now (command_response c.args.self.now (command.Dealloc c.in-Dealloc.serial c.in-Dealloc.alloc)) c.args.wished _ (command_gives c.args.self.now (command.Dealloc c.in-Dealloc.serial c.in-Dealloc.alloc) tt))

pub returns-in-Deactivate-clause-wished : goal.returns-in-Deactivate-clause-wished
returns-in-Deactivate-clause-wished c = rw c.in-Deactivate.is (no_wish c.args.self.now (command_response c.args.self.now (command.Deactivate c.in-Deactivate.serial)) c.args.wished _ (command_gives c.args.self.now (command.Deactivate c.in-Deactivate.serial) tt))

pub returns-in-Disable-clause-wished : goal.returns-in-Disable-clause-wished
returns-in-Disable-clause-wished c = rw c.in-Disable.is (no_wish c.args.self.now (command_response c.args.self.now (command.Disable c.in-Disable.serial)) c.args.wished _ (command_gives c.args.self.now (command.Disable c.in-Disable.serial) tt))

pub returns-in-Enable-clause-wished : goal.returns-in-Enable-clause-wished
returns-in-Enable-clause-wished c = rw c.in-Enable.is (no_wish c.args.self.now (command_response c.args.self.now (command.Enable c.in-Enable.serial)) c.args.wished _ (command_gives c.args.self.now (command.Enable c.in-Enable.serial) tt))

pub returns-in-Popup-clause-wished : goal.returns-in-Popup-clause-wished
returns-in-Popup-clause-wished c = rw c.in-Popup.is (no_wish c.args.self.now (command_response c.args.self.now (command.Popup c.in-Popup.serial)) c.args.wished _ (command_gives c.args.self.now (command.Popup c.in-Popup.serial) tt))

pub returns-in-Show-clause-wished : goal.returns-in-Show-clause-wished
returns-in-Show-clause-wished c = rw c.in-Show.is (no_wish c.args.self.now (command_response c.args.self.now (command.Show c.in-Show.serial)) c.args.wished _ (command_gives c.args.self.now (command.Show c.in-Show.serial) tt))
