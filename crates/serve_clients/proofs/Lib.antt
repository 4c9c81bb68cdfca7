mod ConnectionLaws
mod ClientLaws
mod SessionLaws
