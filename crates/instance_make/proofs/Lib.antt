mod StreamLaws
mod DrawnLaws
mod WholeLaws
mod TiedLaws
mod MadeLaws
